use Rattle.std.proofs.Common.{◌≡◌, ◌++◌, drop, flat_map, map, string_bytes}
use Rattle.pm_spans.specs.source.Excerpts.{hint_text}
use Rattle.pm_messages.proofs.located.told.push_hints.Given as goal

-- what is told so far, and the lines of the hints that are left, are all that is told
abbrev pub invariant-loop-hint : goal.invariant-loop-hint
invariant-loop-hint l =
    l.out.items ++ flat_map (hint_text l.bytes l.at) (map string_bytes (drop l.hint-index l.hints))
    ≡ l.fn.out.items ++ flat_map (hint_text l.bytes l.at) (map string_bytes l.hints)
