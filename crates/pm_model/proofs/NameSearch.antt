-- What a search in an order of names finds.
use Rattle.std.proofs.Common.{◌≡◌, ◌≢◌, ℕ, ◌<◌, ◌≤◌, Bool, true, false, List, [], length, get_or, Some, None, Ordering, Less, Equal, Greater, refl, sym, ap, ◌∙◌, inl, inr, zero-add, arith}
use Rattle.std.specs.Cmp.{IsTotalOrder, IsStrictWeakOrder}
use Rattle.std.specs.Cmp.Lexicographic.{slice_cmp}
use denote.Param.Members.{Mut}
use denote.Ref.{Bor}
use Rattle.std.specs.Fn.{Called, ComparesAs, ComputesKey}
use Rattle.std.specs.List.{All, Contains, range_with_len}
use Rattle.std.specs.List.Sorted.{IsPartitionPoint, IsPartitionedBy, IsSorted, IsSortedByClosure}
use Rattle.std.specs.Ordering.{is_lt, is_eq, nat_cmp, ordering_reverse, ordering_then}
use Rattle.std.specs.Str.{bytes_eq}
use Rattle.std.proofs.lemmas.Bool.{cases_lt, false≢true, true≢false}
use Rattle.std.proofs.lemmas.Bool.Decides.{nat_tests}
use Rattle.std.proofs.lemmas.Cmp.{nat_cmp_total, nat_list_cmp_total, on_total, then_total, tied_itself}
use Rattle.std.proofs.lemmas.Fn.{always_returns_same}
use Rattle.std.proofs.lemmas.List.{get_or_default}
use Rattle.std.proofs.lemmas.List.FromFn.{get_or-range_with_len, length-range_with_len}
use Rattle.std.proofs.lemmas.List.Sorted.{All-permutation, Contains-permutation, IsPartitionPoint-from_clause, ranks_by, sorted_far}
use Rattle.std.proofs.lemmas.Map.Text.{is_eq-slice_cmp}
use Rattle.std.proofs.lemmas.Slice.Eq.{bytes_eq-Decides}
use Rattle.pm_model.proofs.PlaceNamed.{not_same, position-first, position-none}
use Rattle.pm_model.specs.NameOrder.{IsNameOrder, IsPlaceInOrder, by_name, is_before, name_at}
use Rattle.pm_model.specs.NamedList.{place_named}

-- places by name are in a total order
by_name_total : (names : List (List ℕ)) → IsTotalOrder (by_name names)
by_name_total names = then_total (on_total (name_at names) nat_list_cmp_total) nat_cmp_total

-- and so what stands before is an order, as a sort asks
by_name_ranks : (names : List (List ℕ)) → IsStrictWeakOrder (λ a b. is_lt (by_name names a b))
by_name_ranks names = ranks_by (by_name_total names) (λ place. place)

-- what a sort by a closure gives, where each call compares two places by name
pub sorted_by_name : (names : List (List ℕ)) {F : Type 0} {g : Mut F (Bor ℕ × (Bor ℕ × Unit {0})) Ordering} {f : F} (order : List ℕ) → IsSortedByClosure g f order → ((a : Bor ℕ × (Bor ℕ × Unit {0})) (r : Ordering) (f' : F) → Called g f a r f' → (r ≡ by_name names a.0.now a.1.0.now) × (f' ≡ f)) → IsSorted (by_name names) order
sorted_by_name names {F} {g} {f} order sorted compares =
    let answers : ComparesAs g (λ a b. is_lt (by_name names a b)) f = always_returns_same g _ f (λ a r f' called. (ap is_lt (compares a r f' called).0, (compares a r f' called).1)) in
    sorted _ (by_name_ranks names) answers

-- each place of the order is the place of a name
pub below_names : (names : List (List ℕ)) (order : List ℕ) → IsNameOrder names order → All (λ place. place < length names) order
below_names names order is =
    let range = range_with_len 0 (length names) in
    let all : All (λ place. place < length names) range = λ k d h.
    let below : k < length names = rw (← length-range_with_len 0 (length names)) h in
    rw (get_or-range_with_len 0 (length names) k d below) (omega arith)
    in
    All-permutation (λ place. place < length names) range order is.places all

-- each name has its place in the order
pub stands_in_order : (names : List (List ℕ)) (order : List ℕ) → IsNameOrder names order → (place : ℕ) → place < length names → Contains order place
stands_in_order names order is place below =
    let range = range_with_len 0 (length names) in
    let here : Contains range place = (place, rw (length-range_with_len 0 (length names)) below, simp zero-add at (get_or-range_with_len 0 (length names) place place below)) in
    Contains-permutation range order place is.places here

-- texts in the order of bytes
pub names_rank : IsStrictWeakOrder (λ (x y : List ℕ). is_lt (slice_cmp nat_cmp x y))
names_rank = ranks_by nat_list_cmp_total (λ name. name)

-- what stands before no earlier text, stands before what that one stands before
before_last : (x y z : List ℕ) → is_lt (slice_cmp nat_cmp y x) ≡ false → is_lt (slice_cmp nat_cmp y z) ≡ true → is_lt (slice_cmp nat_cmp x z) ≡ true
before_last x y z after before = grind (arith, names_rank.chain y x z after)

-- two texts of which neither stands before the other are one
same_text : (x y : List ℕ) → is_lt (slice_cmp nat_cmp x y) ≡ false → is_lt (slice_cmp nat_cmp y x) ≡ false → x ≡ y
same_text x y after before = (bytes_eq-Decides x y).0 (sym (is_eq-slice_cmp x y) ∙ tied (slice_cmp nat_cmp x y) (slice_cmp nat_cmp y x) (nat_list_cmp_total.antisymm x y) after before)
  where
    tied : (o p : Ordering) → o ≡ ordering_reverse p → is_lt o ≡ false → is_lt p ≡ false → is_eq o ≡ true
    tied Less p is h g = absurd (false≢true (sym h))
    tied Equal p is h g = refl
    tied Greater Less is h g = absurd (false≢true (sym g))
    tied Greater Equal is h g = cc
    tied Greater Greater is h g = cc

-- what the first comparison decides, the second does not change
first_decides : (o p : Ordering) → is_lt (ordering_then o p) ≡ false → is_lt o ≡ false
first_decides Less p h = h
first_decides Equal p h = refl
first_decides Greater p h = refl

-- and where it decides nothing, the second decides
second_decides : (o p : Ordering) → o ≡ Equal → is_lt (ordering_then o p) ≡ false → is_lt p ≡ false
second_decides o p tied h = rw tied at h

-- two numbers in order
not_less : (a b : ℕ) → is_lt (nat_cmp a b) ≡ false → b ≤ a
not_less a b h = grind (arith, nat_tests)

-- names do not fall along the order
pub in_order : (names : List (List ℕ)) (order : List ℕ) → IsNameOrder names order → (i j : ℕ) → i ≤ j → j < length order → is_lt (slice_cmp nat_cmp (name_at names (get_or order j 0)) (name_at names (get_or order i 0))) ≡ false
in_order names order is i j le below = first_decides _ _ (sorted_far (λ a b. is_lt (by_name names a b)) (by_name_ranks names) order is.sorted i j 0 le below)

-- those before a name stand before the others in the order
partitioned_by_name : (names : List (List ℕ)) (order : List ℕ) → IsNameOrder names order → (name : List ℕ) → IsPartitionedBy (is_before names name) order
partitioned_by_name names order is name i j d le below before =
    let up = sorted_far (λ a b. is_lt (by_name names a b)) (by_name_ranks names) order is.sorted i j d le below in
    before_last (name_at names (get_or order i d)) (name_at names (get_or order j d)) name (first_decides _ _ up) before

-- what a search by a closure gives, where each call tests a place by name
pub split_by_name : (names : List (List ℕ)) (order : List ℕ) → IsNameOrder names order → (name : List ℕ) {F : Type 0} {g : Mut F (Bor ℕ × Unit {0}) Bool} {f : F} (n : ℕ) → n ≤ length order → ((p : ℕ → Bool) → ComputesKey g p f → IsPartitionedBy p order → IsPartitionPoint (λ place. p place ≡ true) (λ place. p place ≡ false) order n) → ((a : Bor ℕ × Unit {0}) (r : Bool) (f' : F) → Called g f a r f' → (r ≡ is_before names name a.0.now) × (f' ≡ f)) → IsPlaceInOrder names order name n
split_by_name names order is name n in_range split tests = record {
  in_range = in_range;
  split = IsPartitionPoint-from_clause (is_before names name) order n split (partitioned_by_name names order is name) tests;
}

-- a row of a name, or an earlier one, stands where the name's place in the order is
pub record IsFound (names : List (List ℕ)) (order : List ℕ) (name : List ℕ) (at place : ℕ) : Type 0 where
  pub in_range : at < length order
  pub same_name : name_at names (get_or order at 0) ≡ name
  pub first : get_or order at 0 ≤ place

module _ (names : List (List ℕ)) (order : List ℕ) (is : IsNameOrder names order) (name : List ℕ) (at : ℕ) (here : IsPlaceInOrder names order name at) where
  -- the row at an index of the order
  found_at : (q place : ℕ) → q < length order → get_or order q 0 ≡ place → name_at names place ≡ name → IsFound names order name at place
  found_at q place below_end there same =
      let itself : is_before names name (get_or order q 0) ≡ false = rw (there, same) (ap is_lt (tied_itself nat_list_cmp_total name)) in
      let at_le : at ≤ q = elim (cases_lt q at) [ inl lt ↦ absurd (true≢false (sym (here.split.0 q 0 (omega arith) lt) ∙ itself)) | inr le ↦ le ] in
      let up = rw (there, same) at (sorted_far (λ a b. is_lt (by_name names a b)) (by_name_ranks names) order is.sorted at q 0 at_le below_end) in
      let in_range : at < length order = omega arith in
      let same_name : name_at names (get_or order at 0) ≡ name = same_text _ _ (here.split.1 at 0 (omega arith) in_range) (first_decides _ _ up) in
      let tied : slice_cmp nat_cmp name (name_at names (get_or order at 0)) ≡ Equal = rw same_name (tied_itself nat_list_cmp_total name) in
      record { in_range = in_range; same_name = same_name; first = not_less place (get_or order at 0) (second_decides _ _ tied up) }

  -- the row at a place
  found : (place : ℕ) → place < length names → name_at names place ≡ name → IsFound names order name at place
  found place below same =
      let (q, in_range, there) = stands_in_order names order is place below in
      found_at q place in_range (get_or_default order q 0 place in_range ∙ there) same

  -- no row of the name where the order ends before it
  pub none_past : length order ≤ at → place_named name names ≡ None
  none_past past = position-none (bytes_eq name) names [] (λ k below. not_same name (name_at names k) (λ same. omega (arith, (found k below (sym same)).in_range)))

  -- nor where another name stands at its place
  pub none_here : name_at names (get_or order at 0) ≢ name → place_named name names ≡ None
  none_here other = position-none (bytes_eq name) names [] (λ k below. not_same name (name_at names k) (λ same. other (found k below (sym same)).same_name))

  -- and where the name stands there, this is its first row
  pub first_here : at < length order → name_at names (get_or order at 0) ≡ name → place_named name names ≡ Some (get_or order at 0)
  first_here in_range same =
      position-first (bytes_eq name) names (get_or order at 0) [] (below_names names order is at 0 in_range) ((bytes_eq-Decides _ _).1 (sym same)) (λ k below. not_same name (name_at names k) (λ same_k. omega (arith, (found k (omega (arith, below_names names order is at 0 in_range)) (sym same_k)).first)))
