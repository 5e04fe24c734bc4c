-- A set of numbers below a bound, as a list with one mark per number.
use Rattle.std.specs.Prelude.{◌≡◌, ◌<◌, ◌≤◌, ℕ, Bool, false, List, slice_index_or}

-- whether a number is in the set; past the bound none is
abbrev pub is_marked : List Bool → ℕ → Bool
is_marked marks number = slice_index_or marks number false

-- none of the numbers from low on, and below high, is in the set
abbrev pub NoneMarked : List Bool → ℕ → ℕ → Type 0
NoneMarked marks low high = (j : ℕ) → low ≤ j → j < high → is_marked marks j ≡ false
