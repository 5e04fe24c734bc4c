-- The lines of a log, and what stands behind `pm_lab: ` in one (this project's own).
use Rattle.std.specs.Prelude.{ℕ, ◌==◌, Bool, List, [], ◌∷◌, Option, Some, None, codes, drop, take, if◌then◌else◌}
use Rattle.std.specs.Str.{bytes_eq}

abbrev pub is_newline : ℕ → Bool
is_newline b = b == 10

abbrev pub is_space : ℕ → Bool
is_space b = b == 32

-- a byte more in front of the first line
abbrev pub onto_first : ℕ → List (List ℕ) → List (List ℕ)
onto_first b [] = (b ∷ []) ∷ []
onto_first b (line ∷ lines) = (b ∷ line) ∷ lines

-- the lines, without their newlines
unfoldable pub lines_of : List ℕ → List (List ℕ)
lines_of [] = [] ∷ []
lines_of (b ∷ bytes) = if is_newline b then [] ∷ lines_of bytes else onto_first b (lines_of bytes)

-- the lines of a text that may be missing
abbrev pub lines_in : Option (List ℕ) → List (List ℕ)
lines_in None = []
lines_in (Some text) = lines_of text

-- a text begins with the prefix of an outcome
abbrev pub begins : List ℕ → Bool
begins text = bytes_eq (take 8 text) (codes "pm_lab: ")

-- what stands behind the first `pm_lab: ` of a line
unfoldable pub behind_prefix : List ℕ → Option (List ℕ)
behind_prefix [] = None
behind_prefix (b ∷ bytes) =
    if begins (b ∷ bytes) then Some (drop 8 (b ∷ bytes)) else behind_prefix bytes
