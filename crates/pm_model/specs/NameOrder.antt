-- The order of names by which a row is found (this project's own).
use Rattle.std.specs.Prelude.{◌≡◌, ℕ, ◌≤◌, List, [], Bool, true, false, length, nat_eq, slice_index_or, if◌then◌else◌, nat_lt}
use Rattle.std.specs.declared.cmp.Ordering.{Ordering}
use Rattle.std.specs.Cmp.Lexicographic.{slice_cmp}
use Rattle.std.specs.List.{common_prefix_len, range_with_len}
use Rattle.std.specs.List.Sorted.{IsPartitionPoint, IsPermutation, IsSorted}
use Rattle.std.specs.Ordering.{is_lt, nat_cmp, ordering_then}

-- the name at a place, and no bytes past the end
abbrev pub name_at : List (List ℕ) → ℕ → List ℕ
name_at names place = slice_index_or names place []

-- two places compared by their names, and where those are one name by the places
abbrev pub by_name : List (List ℕ) → ℕ → ℕ → Ordering
by_name names a b = ordering_then (slice_cmp nat_cmp (name_at names a) (name_at names b)) (nat_cmp a b)

-- order has the place of each name, sorted by name
pub record IsNameOrder (names : List (List ℕ)) (order : List ℕ) : Type 0 where
  pub places : IsPermutation (range_with_len 0 (length names)) order
  pub sorted : IsSorted (by_name names) order

-- the name at a place stands before this name
abbrev pub is_before : List (List ℕ) → List ℕ → ℕ → Bool
is_before names name place = is_lt (slice_cmp nat_cmp (name_at names place) name)

-- in this order, exactly the first n names stand before this name
pub record IsPlaceInOrder (names : List (List ℕ)) (order : List ℕ) (name : List ℕ) (n : ℕ) : Type 0 where
  pub in_range : n ≤ length order
  pub split : IsPartitionPoint (λ place. is_before names name place ≡ true) (λ place. is_before names name place ≡ false) order n

-- how many bytes these and the name at an index of the order have in common from the front, and 0 past the end
abbrev pub common_at : List (List ℕ) → List ℕ → List ℕ → ℕ → ℕ
common_at names order bytes at = if nat_lt at (length order) then common_prefix_len nat_eq bytes (name_at names (slice_index_or order at 0)) else 0
