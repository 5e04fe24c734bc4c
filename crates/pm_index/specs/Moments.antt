-- The moments of all places, as a list with one entry per place.
use Rattle.std.specs.Prelude.{◌≡◌, ◌<◌, ◌≤◌, ◌⊎◌, ℕ, Bool, false, List, Option, Some, None, nat_le, slice_index_or}

-- the moment of a place, if it has one; past the last place there is none
abbrev pub moment_of : List (Option ℕ) → ℕ → Option ℕ
moment_of moments place = slice_index_or moments place None

-- whether there is a moment, no later than the bound
abbrev pub is_within : ℕ → Option ℕ → Bool
is_within bound None = false
is_within bound (Some at) = nat_le at bound

-- none of the places from low on, and below high, has a moment within the bound
abbrev pub NoneWithin : List (Option ℕ) → ℕ → ℕ → ℕ → Type 0
NoneWithin moments bound low high = (j : ℕ) → low ≤ j → j < high → is_within bound (moment_of moments j) ≡ false

-- a moment and its place come before the other, or are it: the earlier moment first, and at equal ones the lesser place
abbrev pub IsNoLater : ℕ × ℕ → ℕ × ℕ → Type 0
IsNoLater a b = (a.0 < b.0) ⊎ ((a.0 ≡ b.0) × (a.1 ≤ b.1))
