-- The words that the code holds in order, in bytes.
use Rattle.std.specs.Prelude.{◌++◌, map, option_map, string_bytes}
use Rattle.pm_cmd_ends.specs.declared.ordering.Hands.{Hands as HandsWords}
use Rattle.pm_cmd_ends.specs.declared.ordering.Words.{Words}
use Rattle.pm_cmd_ends.specs.Words.{Hands, Ordered}

abbrev pub hands_of : HandsWords → Hands
hands_of hands = record { number = hands.number.now; behind = map string_bytes hands.behind.now }

abbrev pub ordered_of : Words → Ordered
ordered_of words = record {
  positional = map string_bytes words.front.now ++ (map string_bytes words.middle.now ++ map string_bytes words.rear.now);
  hands = option_map (λ number. number.now) words.hands;
}
