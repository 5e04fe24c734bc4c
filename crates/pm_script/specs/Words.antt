-- The words of a command, which spaces part (this project's own).
use Rattle.std.specs.Prelude.{ℕ, Bool, true, false, List, [], ◌∷◌, Option, Some, None, filter, nat_eq}
use Rattle.std.specs.List.{slice_split}

abbrev pub is_space : ℕ → Bool
is_space c = nat_eq c 32

-- what stands between two spaces that follow each other is no word
abbrev pub is_word : List ℕ → Bool
is_word [] = false
is_word (c ∷ word) = true

-- what stands between spaces
abbrev pub words_of : List ℕ → List (List ℕ)
words_of bytes = filter is_word (slice_split is_space bytes)

-- the words that begin with this one, if there is one, and what stands behind it
abbrev pub words_from : Option (List ℕ × List ℕ) → List (List ℕ)
words_from None = []
words_from (Some found) = found.0 ∷ words_of found.1
