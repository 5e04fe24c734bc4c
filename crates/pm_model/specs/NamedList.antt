-- What a list of rows with names answers, said of the list of their names (this project's own).
use Rattle.std.specs.Prelude.{ℕ, List, [], ◌∷◌, Option, max, nat_eq, position}
use Rattle.std.specs.List.{common_prefix_len}
use Rattle.std.specs.Str.{bytes_eq}

-- the first place at which this name stands
abbrev pub place_named : List ℕ → List (List ℕ) → Option ℕ
place_named name names = position (bytes_eq name) names

-- how many bytes these bytes and some name have in common from the front, at most; 0 where there is no name
abbrev pub common_len : List ℕ → List (List ℕ) → ℕ
common_len bytes [] = 0
common_len bytes (name ∷ names) = max (common_prefix_len nat_eq bytes name) (common_len bytes names)
