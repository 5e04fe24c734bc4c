-- The name with the most first bytes in common with a text is a neighbour of the text in the order of names.
use Rattle.std.proofs.Common.{◌≡◌, ℕ, zero, suc, ◌-◌, ◌<◌, ◌≤◌, max, false, List, [], ◌∷◌, length, get_or, nat_eq, ◌∙◌, inl, inr, arith}
use Rattle.std.specs.Cmp.Lexicographic.{slice_cmp}
use Rattle.std.specs.List.{common_prefix_len}
use Rattle.std.specs.Ordering.{is_lt, nat_cmp}
use Rattle.std.proofs.lemmas.Bool.{cases_lt, true≢false}
use Rattle.std.proofs.lemmas.List.{get_or_default}
use Rattle.std.proofs.lemmas.Bool.Decides.{nat_tests}
use Rattle.pm_model.proofs.NameSearch.{below_names, in_order, names_rank, stands_in_order}
use Rattle.pm_model.specs.NameOrder.{IsNameOrder, IsPlaceInOrder, common_at, name_at}
use Rattle.pm_model.specs.NamedList.{common_len}

-- of two texts that stand no later than a third, the later has at least as much in common with it
common_below : (x y z : List ℕ) → is_lt (slice_cmp nat_cmp y x) ≡ false → is_lt (slice_cmp nat_cmp z y) ≡ false → common_prefix_len nat_eq z x ≤ common_prefix_len nat_eq z y
common_below x y [] h g = omega arith
common_below [] y (c ∷ z) h g = omega arith
common_below (a ∷ x) [] (c ∷ z) h g = absurd (true≢false h)
common_below (a ∷ x) (b ∷ y) (c ∷ z) h g = grind (arith, nat_tests, common_below x y z)

-- and of two that stand no earlier, the earlier
common_above : (x y z : List ℕ) → is_lt (slice_cmp nat_cmp x y) ≡ false → is_lt (slice_cmp nat_cmp y z) ≡ false → common_prefix_len nat_eq z x ≤ common_prefix_len nat_eq z y
common_above x y [] h g = omega arith
common_above [] y (c ∷ z) h g = omega arith
common_above (a ∷ x) [] (c ∷ z) h g = absurd (true≢false g)
common_above (a ∷ x) (b ∷ y) (c ∷ z) h g = grind (arith, nat_tests, common_above x y z)

-- the most in common is at most what bounds each name
pub common_len-le : (bytes : List ℕ) (names : List (List ℕ)) (n : ℕ) → ((place : ℕ) → place < length names → common_prefix_len nat_eq bytes (name_at names place) ≤ n) → common_len bytes names ≤ n
common_len-le bytes [] n h = omega arith
common_len-le bytes (name ∷ names) n h =
    let rest = common_len-le bytes names n (λ place below. h (suc place) (omega arith)) in
    omega (arith, h 0 (omega arith))

-- and no name has more in common
pub le-common_len : (bytes : List ℕ) (names : List (List ℕ)) (place : ℕ) → place < length names → common_prefix_len nat_eq bytes (name_at names place) ≤ common_len bytes names
le-common_len bytes [] place below = absurd (omega arith)
le-common_len bytes (name ∷ names) zero below = omega arith
le-common_len bytes (name ∷ names) (suc place) below = omega (arith, le-common_len bytes names place (omega arith))

module _ (names : List (List ℕ)) (order : List ℕ) (is : IsNameOrder names order) (bytes : List ℕ) (at : ℕ) (here : IsPlaceInOrder names order bytes at) where
  -- what a name in the order has in common
  common_in_order : (q : ℕ) → q < length order → common_at names order bytes q ≡ common_prefix_len nat_eq bytes (name_at names (get_or order q 0))
  common_in_order q below = grind (arith, nat_tests)

  -- at most the most
  common_at-le : (q : ℕ) → common_at names order bytes q ≤ common_len bytes names
  common_at-le q = elim (cases_lt q (length order)) [
    | inl below ↦ rw (common_in_order q below) (le-common_len bytes names _ (below_names names order is q 0 below))
    | inr past ↦ grind (arith, nat_tests)
  ]

  -- the names from the place on have no more in common than the first of them
  after_place : (q : ℕ) → at ≤ q → q < length order → common_prefix_len nat_eq bytes (name_at names (get_or order q 0)) ≤ common_at names order bytes at
  after_place q le below =
      let in_range : at < length order = omega arith in
      rw (common_in_order at in_range) (common_above _ _ bytes (in_order names order is at q le below) (here.split.1 at 0 (omega arith) in_range))

  -- and those before it no more than the last
  before_place : (q : ℕ) → q < at → common_prefix_len nat_eq bytes (name_at names (get_or order q 0)) ≤ common_at names order bytes (at - 1)
  before_place q lt =
      let in_range : at - 1 < length order = omega (arith, here.in_range) in
      let last = here.split.0 (at - 1) 0 (omega arith) (omega arith) in
      rw (common_in_order (at - 1) in_range) (common_below _ _ bytes (in_order names order is q (at - 1) (omega arith) in_range) (names_rank.one_way (name_at names (get_or order (at - 1) 0)) bytes last))

  -- so no name has more in common than one of the two
  neighbours-ge : (q place : ℕ) → q < length order → get_or order q 0 ≡ place → common_prefix_len nat_eq bytes (name_at names place) ≤ max (common_at names order bytes at) (common_at names order bytes (at - 1))
  neighbours-ge q place below there = rw (← there) (elim (cases_lt q at) [ inl lt ↦ omega (arith, before_place q lt) | inr le ↦ omega (arith, after_place q le below) ])

  -- and the two decide
  pub common_len-neighbours : common_len bytes names ≡ max (common_at names order bytes at) (common_at names order bytes (at - 1))
  common_len-neighbours =
      let le = common_len-le bytes names (max (common_at names order bytes at) (common_at names order bytes (at - 1))) (λ place below.
      let (q, in_range, there) = stands_in_order names order is place below in
      neighbours-ge q place in_range (get_or_default order q 0 place in_range ∙ there)) in
      omega (arith, common_at-le at, common_at-le (at - 1), le)
