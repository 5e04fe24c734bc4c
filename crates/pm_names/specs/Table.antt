-- What a table of words is to its callers: the list of the words, no two of them alike.
use Rattle.std.specs.Prelude.{ℕ, Bool, true, not, ◌&&◌, List, [], ◌∷◌, map, Option, position, bytes_eq}
use Rattle.std.specs.Borrow.{Bor}
use Rattle.std.specs.List.{list_any}

-- the words that the references point to
abbrev pub words_of : List (Bor (List ℕ)) → List (List ℕ)
words_of names = map (λ name. name.now) names

-- the first place at which the word stands, counted from 0
abbrev pub place_of : List (List ℕ) → List ℕ → Option ℕ
place_of words word = position (bytes_eq word) words

-- whether no word is the same as a later one
abbrev pub all_distinct : List (List ℕ) → Bool
all_distinct [] = true
all_distinct (word ∷ words) = not (list_any (bytes_eq word) words) && all_distinct words
