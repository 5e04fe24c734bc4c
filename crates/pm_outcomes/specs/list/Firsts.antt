-- Which observations showed, and where each showed first (this project's own).
use Rattle.std.specs.Prelude.{ℕ, ◌≡◌, ◌≤◌, List, Some, slice_get}
use Rattle.std.specs.List.{Contains}

-- the list has the thing, with a place no later than this one
pub record IsFirstBy {M : Type 0} (firsts : List (M × ℕ)) (place : ℕ) (m : M) : Type 0 where
  pub at : ℕ
  pub first : ℕ
  pub there : slice_get firsts at ≡ Some (m, first)
  pub by : first ≤ place

-- the list has each thing that was seen once, with the first of the places at which it was seen
pub record AreFirsts {M : Type 0} (seen firsts : List (M × ℕ)) : Type 0 where
  pub seen_there : (i : ℕ) (m : M) (place : ℕ) → slice_get firsts i ≡ Some (m, place) → Contains seen (m, place)
  pub all : (m : M) (place : ℕ) → Contains seen (m, place) → IsFirstBy firsts place m
  pub once : (i j : ℕ) (m : M) (p q : ℕ) → slice_get firsts i ≡ Some (m, p) → slice_get firsts j ≡ Some (m, q) → i ≡ j

-- nothing was seen later than at this place
abbrev pub IsUpTo : {M : Type 0} → ℕ → List (M × ℕ) → Type 0
IsUpTo {M} place seen = (m : M) (p : ℕ) → Contains seen (m, p) → p ≤ place
