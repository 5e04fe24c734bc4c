-- Points with, for each, the place of one that it follows: its parent (this project's own).
use Rattle.std.specs.Prelude.{ℕ, suc, ◌≡◌, ◌+◌, ◌<◌, ◌≤◌, Bool, true, false, List, [], ◌∷◌, Some, length, slice_get}

-- each place but the first has its parent before it
abbrev pub LeadDown : List ℕ → Type 0
LeadDown parents = (i parent : ℕ) → 0 < i → slice_get parents i ≡ Some parent → parent < i

-- the places from one back to the first, each followed by its parent
pub data IsPath (parents : List ℕ) : ℕ → List ℕ → Type 0 where
  begins : IsPath parents 0 (0 ∷ [])
  leads_on : {parent : ℕ} {path : List ℕ} (i : ℕ) → 0 < i → slice_get parents i ≡ Some parent → IsPath parents parent path → IsPath parents i (i ∷ path)

-- the path back from a place has so many steps
pub record HasPath (parents : List ℕ) (at steps : ℕ) : Type 0 where
  pub path : List ℕ
  pub leads : IsPath parents at path
  pub many : length path ≡ steps + 1

-- the first place has no step, and each other one more than its parent, which is before it
pub record AreCounted (parents steps : List ℕ) : Type 0 where
  pub each : length steps ≡ length parents
  pub down : LeadDown parents
  pub first : (n : ℕ) → slice_get steps 0 ≡ Some n → n ≡ 0
  pub next : (i parent m n : ℕ) → 0 < i → slice_get parents i ≡ Some parent → slice_get steps parent ≡ Some m → slice_get steps i ≡ Some n → n ≡ m + 1

module _ {P : Type 0} (Follows : Bool → P → P → Type 0) where
  -- by such a step the point at the second place follows the one at the first
  pub record IsStep (spends : Bool) (points : List P) (from to : ℕ) : Type 0 where
    pub point : P
    pub next : P
    pub at : slice_get points from ≡ Some point
    pub next_at : slice_get points to ≡ Some next
    pub follows : Follows spends point next

  -- the first is the start, each other has its parent before it, which it follows, and no point is there twice
  pub record IsTree (start : P) (points : List P) (parents : List ℕ) : Type 0 where
    pub first : (p : P) → slice_get points 0 ≡ Some p → p ≡ start
    pub each : length parents ≡ length points
    pub down : LeadDown parents
    pub leads : (i parent : ℕ) → 0 < i → slice_get parents i ≡ Some parent → (spends : Bool) × IsStep spends points parent i
    pub once : (i j : ℕ) (p : P) → slice_get points i ≡ Some p → slice_get points j ≡ Some p → i ≡ j

  -- the parents lead from the first place to this one by steps of which so many spend
  pub data IsLedTo (points : List P) (parents : List ℕ) : ℕ → ℕ → Type 0 where
    starts : IsLedTo points parents 0 0
    freely : {k : ℕ} (parent i : ℕ) → IsLedTo points parents k parent → slice_get parents i ≡ Some parent → parent < i → IsStep false points parent i → IsLedTo points parents k i
    dearly : {k : ℕ} (parent i : ℕ) → IsLedTo points parents k parent → slice_get parents i ≡ Some parent → parent < i → IsStep true points parent i → IsLedTo points parents (suc k) i

  -- at most so many
  pub record IsLedWithin (points : List P) (parents : List ℕ) (k i : ℕ) : Type 0 where
    pub spent : ℕ
    pub few : spent ≤ k
    pub led : IsLedTo points parents spent i

  -- The k-th number of a list, from 0, is of how many places each is led to by steps of which at most k spend.
  abbrev pub AreLed : List P → List ℕ → List ℕ → Type 0
  AreLed points parents rounds = (k bound i : ℕ) → slice_get rounds k ≡ Some bound → i < bound → IsLedWithin points parents k i
