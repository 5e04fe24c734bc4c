-- Which of the words behind a command's word are positional, and what its option says (this project's own).
use Rattle.std.specs.Prelude.{ℕ, Bool, not, ◌&&◌, List, [], ◌∷◌, ◌++◌, Option, Some, None, codes, drop, length, nat_eq, option_and_then, option_map, if◌then◌else◌}
use Rattle.std.specs.List.{after_first, before_first, list_any, position_or_len, starts_with}
use Rattle.std.specs.Str.{bytes_eq}

-- behind the first one each word is positional
abbrev pub is_separator : List ℕ → Bool
is_separator word = bytes_eq word (codes "--")

-- before it, a word that begins with - and isn't - alone is no positional word
abbrev pub is_option : List ℕ → Bool
is_option word = starts_with nat_eq word (codes "-") && not (bytes_eq word (codes "-"))

-- what stands before the separator, or all words where there is none; and what stands behind it
abbrev pub before_separator : List (List ℕ) → List (List ℕ)
before_separator words = before_first is_separator words

abbrev pub behind_separator : List (List ℕ) → List (List ℕ)
behind_separator words = after_first is_separator words

-- an option, which says how many hands there are, and what stands behind it
pub record Hands : Type 0 where
  pub number : List ℕ
  pub behind : List (List ℕ)

-- `--hands N`
abbrev pub hands_spaced : List (List ℕ) → Option Hands
hands_spaced [] = None
hands_spaced (number ∷ words) = Some (record { number = number; behind = words })

-- `--hands=N`
abbrev pub hands_joined : List ℕ → List (List ℕ) → Option Hands
hands_joined word words =
    if starts_with nat_eq word (codes "--hands=") then Some (record { number = drop 8 word; behind = words }) else None

-- the words begin with the option, in either form
abbrev pub hands_first : List (List ℕ) → Option Hands
hands_first [] = None
hands_first (word ∷ words) = if bytes_eq word (codes "--hands") then hands_spaced words else hands_joined word words

-- the words behind a command's word, in order: those that are positional, and the N of the option, where it stands
pub record Ordered : Type 0 where
  pub positional : List (List ℕ)
  pub hands : Option (List ℕ)

-- the words before the separator, as those before the first option and the rest
abbrev pub before_option : List (List ℕ) → List (List ℕ)
before_option words = before_first is_option words

abbrev pub from_option : List (List ℕ) → List (List ℕ)
from_option words = drop (position_or_len is_option words) words

-- the option stands once: none follows it
abbrev pub ordered_around : List (List ℕ) → List (List ℕ) → Hands → Option Ordered
ordered_around front rear hands =
    if list_any is_option hands.behind then None else Some (record { positional = front ++ (hands.behind ++ rear); hands = Some hands.number })

abbrev pub ordered_by : List (List ℕ) → List (List ℕ) → List (List ℕ) → Option Ordered
ordered_by front [] rear = Some (record { positional = front ++ rear; hands = None })
ordered_by front (word ∷ words) rear = option_and_then (ordered_around front rear) (hands_first (word ∷ words))

-- none where a word before the separator is an option that isn't known, or stands twice, or lacks its N
abbrev pub ordered : List (List ℕ) → Option Ordered
ordered words =
    let before = before_separator words in
    ordered_by (before_option before) (from_option before) (behind_separator words)
