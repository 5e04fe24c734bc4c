-- What is known of the points while a search goes on (this project's own).
use Rattle.std.specs.Prelude.{ℕ, ◌≡◌, ◌<◌, ◌≤◌, ◌⊎◌, ◌++◌, ◌∷◌, [], Bool, true, List, Some, length, slice_get}
use Rattle.pm_explore.specs.search.Exact.{IsAmong}
use Rattle.pm_explore.specs.search.Trees.{IsLedWithin}

-- what the first list has the second has at the same places, and what the second has besides passes the test
pub record Grows {A : Type 0} (Test : A → Type 0) (old new : List A) : Type 0 where
  pub longer : length old ≤ length new
  pub kept : (i : ℕ) (x : A) → slice_get old i ≡ Some x → slice_get new i ≡ Some x
  pub added : (i : ℕ) (x : A) → slice_get new i ≡ Some x → (slice_get old i ≡ Some x) ⊎ Test x

abbrev pub IsKept : {A : Type 0} → List A → List A → Type 0
IsKept {A = A} old new = Grows {A = A} (λ x. Unit {0}) old new

-- a node is equal to this one
pub record IsStored {N : Type 0} (eq : N → N → Bool) (nodes : List N) (node : N) : Type 0 where
  pub place : ℕ
  pub stored : N
  pub there : slice_get nodes place ≡ Some stored
  pub same : eq node stored ≡ true

-- one may be put that follows this place, or the first one
abbrev pub CanFollow : List ℕ → ℕ → Type 0
CanFollow parents parent = (parents ≡ []) ⊎ (parent < length parents)

-- a point and its parent are put at the end, unless the point is there
pub data Adds {P : Type 0} (p : P) (parent : ℕ) (points : List P) (parents : List ℕ) : List P → List ℕ → Type 0 where
  is_there : IsAmong points (length points) p → Adds p parent points parents points parents
  is_new : ¬ IsAmong points (length points) p → Adds p parent points parents (points ++ p ∷ []) (parents ++ parent ∷ [])

module _ {P : Type 0} (Follows : Bool → P → P → Type 0) where
  -- all that follow a point by such steps are in the list
  abbrev pub IsSpread : Bool → List P → P → Type 0
  IsSpread spends points p = (q : P) → Follows spends p q → IsAmong points (length points) q

  -- and so for the first so many of the list
  abbrev pub AreSpread : Bool → ℕ → List P → Type 0
  AreSpread spends count points = (i : ℕ) → i < count → (p : P) → slice_get points i ≡ Some p → IsSpread spends points p

  -- each place is led to by steps of which at most k spend
  abbrev pub IsLed : ℕ → List P → List ℕ → Type 0
  IsLed k points parents = (i : ℕ) → i < length points → IsLedWithin Follows points parents k i
