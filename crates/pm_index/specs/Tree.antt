-- A whole binary tree of numbers in a list: node i has the nodes 2 i and 2 i + 1 under it, each inner node holds the
-- lesser number of these two, and node 1 so holds the least of all. The leaves are the last half, and stand in order.
-- A leaf holds the moment of a place, less 1, where it is a later one than 0; those that are 0 stand in a set apart.
use Rattle.std.specs.Prelude.{◌≡◌, ◌+◌, ◌-◌, ◌*◌, ◌^◌, ◌<◌, ◌≤◌, ◌==◌, if◌then◌else◌, ℕ, Bool, true, false, List, Option, Some, None, length, map, min, nat_lt, slice_index}
use Rattle.std.specs.List.{range_with_len}
use Rattle.pm_index.specs.Marks.{is_marked}

-- this inner node holds the lesser of the two under it
abbrev pub HoldsLesser : List ℕ → ℕ → Type 0
HoldsLesser nodes i = slice_index nodes i ≡ min (slice_index nodes (2 * i)) (slice_index nodes (2 * i + 1))

-- each inner node does
abbrev pub AreKept : List ℕ → Type 0
AreKept nodes = (i : ℕ) → 0 < i → 2 * i + 1 < length nodes → HoldsLesser nodes i

-- the first of the leaves under a node that stands so many levels above them
unfoldable pub first_leaf : ℕ → ℕ → ℕ
first_leaf node levels = node * 2 ^ levels

-- no node from low on, and below high, holds less than the bound
abbrev pub NoneUnder : List ℕ → ℕ → ℕ → ℕ → Type 0
NoneUnder nodes bound low high = (j : ℕ) → low ≤ j → j < high → bound ≤ slice_index nodes j

-- what a leaf holds where its place has no later moment
abbrev pub never : ℕ
never = 2 ^ 64 - 1

-- the later moment that a leaf holds
abbrev pub later_of : ℕ → Option ℕ
later_of key = if nat_lt key never then Some (key + 1) else None

-- whether a moment is 0, so that its place stands in the set
abbrev pub is_now : Option ℕ → Bool
is_now None = false
is_now (Some at) = at == 0

-- the moment of a place, by the set and its leaf
abbrev pub moment_by : Bool → ℕ → Option ℕ
moment_by true key = Some 0
moment_by false key = later_of key

-- the moments of all places
abbrev pub shown : ℕ → ℕ → List Bool → List ℕ → List (Option ℕ)
shown places leaves at_once nodes = map (λ i. moment_by (is_marked at_once i) (slice_index nodes (leaves + i))) (range_with_len 0 places)

-- the set and the tree of so many places, with its leaves and the levels above them; those past the last place hold
-- no later moment
pub record AreMoments (places leaves levels : ℕ) (at_once : List Bool) (nodes : List ℕ) : Type 0 where
  pub low : levels ≤ 32
  pub whole : leaves ≡ first_leaf 1 levels
  pub halves : length nodes ≡ 2 * leaves
  pub enough : places ≤ leaves
  pub marks : length at_once ≡ places
  pub kept : AreKept nodes
  pub empty : (i : ℕ) → places ≤ i → i < leaves → slice_index nodes (leaves + i) ≡ never

-- of two places the lesser; None is greater than all
abbrev pub lesser : Option ℕ → Option ℕ → Option ℕ
lesser None b = b
lesser (Some x) None = Some x
lesser (Some x) (Some y) = Some (min x y)
