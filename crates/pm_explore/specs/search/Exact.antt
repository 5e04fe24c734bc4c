-- Lists that have exactly the points that are reached (this project's own).
use Rattle.std.specs.Prelude.{ℕ, ◌≡◌, ◌<◌, ◌≤◌, ◌+◌, Bool, List, Some, length, slice_get}
use Rattle.pm_explore.specs.search.Reached.{Reached, ReachedWithin}

-- the first so many of a list have this one
pub record IsAmong {P : Type 0} (points : List P) (bound : ℕ) (p : P) : Type 0 where
  pub place : ℕ
  pub below : place < bound
  pub there : slice_get points place ≡ Some p

-- the list has what passes the test, all of it, and nothing else
pub record HasExactly {P : Type 0} (Test : P → Type 0) (points : List P) : Type 0 where
  pub sound : (i : ℕ) (p : P) → slice_get points i ≡ Some p → Test p
  pub complete : (p : P) → Test p → IsAmong points (length points) p

-- the last number of the list is that of all points
pub record EndWithAll {P : Type 0} (points : List P) (rounds : List ℕ) : Type 0 where
  pub last : ℕ
  pub is_last : length rounds ≡ last + 1
  pub all : slice_get rounds last ≡ Some (length points)

module _ {P : Type 0} (Follows : Bool → P → P → Type 0) (start : P) where
  -- the first so many points are exactly those that are reached by steps of which at most k spend
  pub record IsExact (k : ℕ) (points : List P) (bound : ℕ) : Type 0 where
    pub within : bound ≤ length points
    pub sound : (i : ℕ) (p : P) → i < bound → slice_get points i ≡ Some p → ReachedWithin Follows start k p
    pub complete : (p : P) → ReachedWithin Follows start k p → IsAmong points bound p

  -- The k-th number of a list, from 0, is how many of the points are exactly those that are reached by steps of which
  -- at most k spend.
  abbrev pub AreExact : List P → List ℕ → Type 0
  AreExact points rounds = (k bound : ℕ) → slice_get rounds k ≡ Some bound → IsExact k points bound

  -- the points are exactly those that are reached at all
  abbrev pub IsWhole : List P → Type 0
  IsWhole points = HasExactly (λ p. (k : ℕ) × Reached Follows start k p) points
