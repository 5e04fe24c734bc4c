-- What an order of links says of those of one consumer.
use Rattle.std.proofs.Common.{◌≡◌, ◌≢◌, ℕ, ◌+◌, ◌-◌, ◌<◌, ◌≤◌, ◌⊎◌, Bool, true, false, List, length, take, drop, get_or, set, Ordering, Less, Equal, Greater, refl, sym, ap, ◌∙◌, subst, inl, inr, zero-add, arith}
use denote.Param.Members.{Mut}
use denote.Ref.{Bor}
use Rattle.std.specs.Cmp.{IsTotalOrder, IsStrictWeakOrder}
use Rattle.std.specs.Fn.{Called, ComparesAs, ComputesKey}
use Rattle.std.specs.List.{All, Contains, IsDistinct, range_with_len}
use Rattle.std.specs.List.Sorted.{IsPartitionPoint, IsPartitionedBy, IsSorted, IsSortedByClosure}
use Rattle.std.specs.Ordering.{is_lt, nat_cmp, ordering_then}
use Rattle.std.specs.Prelude.{nat_eq, nat_lt}
use Rattle.std.proofs.lemmas.Bool.{cases_eq, cases_lt, cases_order, eq-eqb, lt-ltb, ltb-true, ltb-false, ne_eqb, true≢false}
use Rattle.std.proofs.lemmas.Bool.Decides.{nat_tests}
use Rattle.std.proofs.lemmas.Cmp.{nat_cmp_total, on_total, then_total}
use Rattle.std.proofs.lemmas.Fn.{always_returns_same}
use Rattle.std.proofs.lemmas.Grind.{get_or-set_at}
use Rattle.std.proofs.lemmas.List.{get_or_default, get_or_past, get_or-set_other, get_or-take, get_or-drop, length-take, length-drop}
use Rattle.std.proofs.lemmas.List.FromFn.{get_or-range_with_len, length-range_with_len}
use Rattle.std.proofs.lemmas.List.Sorted.{All-permutation, Contains-permutation, IsPartitionPoint-from_clause, length_permutation, ranks_by, sorted_far}
use Rattle.std.proofs.lemmas.Map.Keys.{IsDistinct-from_apart, IsDistinct-IsPermutation, apart_from_distinct}
use Rattle.pm_base.specs.declared.DevId.{DevId}
use Rattle.pm_model.specs.declared.rows.LinkRow.{LinkRow}
use Rattle.pm_link.specs.LinkOrder.{AreFirstStarts, AreRanks, AreStarts, IsCountBelow, IsLinkOrder, IsNoFurther, IsOwn, IsOwnAt, IsRisingBy, by_pair, consumer_at, supplier_at}
use Rattle.pm_link.specs.Links.{no_link}

-- links by consumer, supplier and place are in a total order
by_pair_total : (rows : List LinkRow) → IsTotalOrder (by_pair rows)
by_pair_total rows = then_total (then_total (on_total (consumer_at rows) nat_cmp_total) (on_total (supplier_at rows) nat_cmp_total)) nat_cmp_total

-- and so what stands before is an order, as a sort asks
by_pair_ranks : (rows : List LinkRow) → IsStrictWeakOrder (λ a b. is_lt (by_pair rows a b))
by_pair_ranks rows = ranks_by (by_pair_total rows) (λ link. link)

-- what a sort by a closure gives, where each call compares two links by pair
pub sorted_by_pair : (rows : List LinkRow) {F : Type 0} {g : Mut F (Bor ℕ × (Bor ℕ × Unit {0})) Ordering} {f : F} (order : List ℕ) → IsSortedByClosure g f order → ((a : Bor ℕ × (Bor ℕ × Unit {0})) (r : Ordering) (f' : F) → Called g f a r f' → (r ≡ by_pair rows a.0.now a.1.0.now) × (f' ≡ f)) → IsSorted (by_pair rows) order
sorted_by_pair rows {F} {g} {f} order sorted compares =
    let answers : ComparesAs g (λ a b. is_lt (by_pair rows a b)) f = always_returns_same g _ f (λ a r f' called. (ap is_lt (compares a r f' called).0, (compares a r f' called).1)) in
    sorted _ (by_pair_ranks rows) answers

-- each place of the order is the place of a link
pub below_rows : (rows : List LinkRow) (order : List ℕ) → IsLinkOrder rows order → All (λ link. link < length rows) order
below_rows rows order is =
    let range = range_with_len 0 (length rows) in
    let all : All (λ link. link < length rows) range = λ k d h.
    let below : k < length rows = rw (← length-range_with_len 0 (length rows)) h in
    rw (get_or-range_with_len 0 (length rows) k d below) (omega arith)
    in
    All-permutation (λ link. link < length rows) range order is.places all

-- each link has its place in the order
stands_in_order : (rows : List LinkRow) (order : List ℕ) → IsLinkOrder rows order → (link : ℕ) → link < length rows → Contains order link
stands_in_order rows order is link below =
    let range = range_with_len 0 (length rows) in
    let here : Contains range link = (link, rw (length-range_with_len 0 (length rows)) below, simp zero-add at (get_or-range_with_len 0 (length rows) link link below)) in
    Contains-permutation range order link is.places here

-- what the first comparison decides, the second does not change
first_decides : (o p : Ordering) → is_lt (ordering_then o p) ≡ false → is_lt o ≡ false
first_decides Less p h = h
first_decides Equal p h = refl
first_decides Greater p h = refl

-- and where it decides nothing, the second decides
second_decides : (o p : Ordering) → o ≡ Equal → is_lt (ordering_then o p) ≡ false → is_lt p ≡ false
second_decides o p tied h = rw tied at h

not_less : (a b : ℕ) → is_lt (nat_cmp a b) ≡ false → b ≤ a
not_less a b h = grind (arith, nat_tests)

tied_at : (a b : ℕ) → a ≡ b → nat_cmp a b ≡ Equal
tied_at a b same = grind (arith, nat_tests)

-- consumers do not fall along the order
pub consumers_rise : (rows : List LinkRow) (order : List ℕ) → IsLinkOrder rows order → IsRisingBy (consumer_at rows) order
consumers_rise rows order is i j d le below =
    not_less _ _ (first_decides _ _ (first_decides _ _ (sorted_far (λ a b. is_lt (by_pair rows a b)) (by_pair_ranks rows) order is.sorted i j d le below)))

-- nor do the suppliers of one consumer, nor the places of one pair
further_by : (sa sb a b : ℕ) → is_lt (nat_cmp sb sa) ≡ false → (sb ≡ sa → is_lt (nat_cmp b a) ≡ false) → (sa < sb) ⊎ ((sa ≡ sb) × (a ≤ b))
further_by sa sb a b by_supplier by_place =
    elim (cases_order sa sb) [
      | inl equal ↦ inr (equal, not_less b a (by_place (sym equal)))
      | inr apart ↦ elim apart [ inl before ↦ inl before | inr after ↦ let le : sa ≤ sb = not_less sb sa by_supplier in absurd (omega arith) ]
    ]

suppliers_rise : (rows : List LinkRow) (a b : ℕ) → is_lt (by_pair rows b a) ≡ false → consumer_at rows b ≡ consumer_at rows a → IsNoFurther rows a b
suppliers_rise rows a b up same =
    let pairs : Ordering = ordering_then (nat_cmp (consumer_at rows b) (consumer_at rows a)) (nat_cmp (supplier_at rows b) (supplier_at rows a)) in
    let tied = tied_at (consumer_at rows b) (consumer_at rows a) same in
    further_by (supplier_at rows a) (supplier_at rows b) a b
    (second_decides _ _ tied (first_decides pairs (nat_cmp b a) up))
    (λ equal. second_decides pairs (nat_cmp b a) (rw (tied, tied_at (supplier_at rows b) (supplier_at rows a) equal) refl) up)

-- what a search by a closure gives, where each call tests a number that does not fall along a list
pub counted_below : (key : ℕ → ℕ) (links : List ℕ) → IsRisingBy key links → (bound : ℕ) {F : Type 0} {g : Mut F (Bor ℕ × Unit {0}) Bool} {f : F} (n : ℕ) → n ≤ length links → ((p : ℕ → Bool) → ComputesKey g p f → IsPartitionedBy p links → IsPartitionPoint (λ link. p link ≡ true) (λ link. p link ≡ false) links n) → ((a : Bor ℕ × Unit {0}) (r : Bool) (f' : F) → Called g f a r f' → (r ≡ nat_lt (key a.0.now) bound) × (f' ≡ f)) → IsCountBelow key links bound n
counted_below key links rising bound n in_range split tests =
    let partitioned : IsPartitionedBy (λ link. nat_lt (key link) bound) links = λ i j d le below before.
    let rise = rising i j d le below in
    let lt = ltb-true (key (get_or links j d)) bound before in
    lt-ltb (key (get_or links i d)) bound (omega arith)
    in
    let point = IsPartitionPoint-from_clause (λ link. nat_lt (key link) bound) links n split partitioned tests in
    record {
      in_range = in_range;
      before = λ k d lt. ltb-true (key (get_or links k d)) bound (point.0 k d (omega arith) lt);
      after = λ k d le lt. ltb-false (key (get_or links k d)) bound (point.1 k d le lt);
    }

-- nothing is below 0
pub none_below : (key : ℕ → ℕ) (links : List ℕ) → IsCountBelow key links 0 0
none_below key links = record { in_range = omega arith; before = λ k d lt. absurd (omega arith); after = λ k d le lt. omega arith }

-- of two counts, that of the lesser number is no greater
pub counts_rise : (key : ℕ → ℕ) (links : List ℕ) (low high m n : ℕ) → low ≤ high → IsCountBelow key links low m → IsCountBelow key links high n → m ≤ n
counts_rise key links low high m n le first second =
    elim (cases_lt n m) [
      | inl less ↦
          let below = first.before n 0 less in
          let above = second.after n 0 (omega arith) (omega (arith, first.in_range)) in
          absurd (omega arith)
      | inr rise ↦ rise
    ]

-- the links of the devices begin in the order where these do, if no link has another consumer
pub all_starts : (rows : List LinkRow) (order starts : List ℕ) (devices : ℕ) → IsLinkOrder rows order → All (λ (row : LinkRow). row.consumer.0 < devices) rows → AreFirstStarts rows order devices starts → AreStarts rows order starts
all_starts rows order starts devices is among firsts device =
    elim (cases_lt device devices) [
      | inl lt ↦ subst (λ (n : ℕ). IsCountBelow (consumer_at rows) order device n) (get_or_default starts device 0 (length order) (omega (arith, firsts.count_is))) (firsts.each device lt)
      | inr past ↦ subst (λ (n : ℕ). IsCountBelow (consumer_at rows) order device n) (sym (get_or_past starts device (length order) (omega (arith, firsts.count_is)))) (record {
        in_range = omega arith;
        before = λ k d lt. let below = among (get_or order k d) no_link (below_rows rows order is k d lt) in omega arith;
        after = λ k d le lt. absurd (omega arith);
      })
    ]

-- whether two numbers are equal, asked either way
eq_flips : (x y : ℕ) → nat_eq x y ≡ nat_eq y x
eq_flips x y = grind (arith, nat_tests)

-- two places of the order are of two links
order_apart : (rows : List LinkRow) (order : List ℕ) → IsLinkOrder rows order → (i j d : ℕ) → i < j → j < length order → get_or order i d ≡ get_or order j d → ⊥
order_apart rows order is i j d lt below same =
    let range = range_with_len 0 (length rows) in
    let apart : IsDistinct nat_eq range = IsDistinct-from_apart nat_eq range (λ i j d lt below.
    let below_rows : j < length rows = rw (← length-range_with_len 0 (length rows)) below in
    let at_i = get_or-range_with_len 0 (length rows) i d (omega arith) in
    let at_j = get_or-range_with_len 0 (length rows) j d below_rows in
    ne_eqb (get_or range i d) (get_or range j d) (omega (arith, at_i, at_j)))
    in
    let kept = IsDistinct-IsPermutation nat_eq eq_flips range order is.places apart in
    true≢false (sym (eq-eqb (get_or order i d) (get_or order j d) same) ∙ apart_from_distinct nat_eq order i j d kept lt below)

pub ranks_apart : (rows : List LinkRow) (order : List ℕ) → IsLinkOrder rows order → (i j : ℕ) → i < length order → j < length order → i ≢ j → get_or order i 0 ≢ get_or order j 0
ranks_apart rows order is i j lt_i lt_j other same =
    elim (cases_order i j) [
      | inl equal ↦ other equal
      | inr either ↦ elim either [ inl before ↦ order_apart rows order is i j 0 before lt_j same | inr after ↦ order_apart rows order is j i 0 after lt_i (sym same) ]
    ]

pub length_order : (rows : List LinkRow) (order : List ℕ) → IsLinkOrder rows order → length order ≡ length rows
length_order rows order is = length_permutation (range_with_len 0 (length rows)) order is.places ∙ length-range_with_len 0 (length rows)

-- the place of a link holds that link
pub rank_holds : (rows : List LinkRow) (order ranks : List ℕ) → IsLinkOrder rows order → AreRanks order ranks → (link : ℕ) → link < length rows → (get_or ranks link 0 < length order) × (get_or order (get_or ranks link 0) 0 ≡ link)
rank_holds rows order ranks is are link below =
    let (q, in_order, there) = stands_in_order rows order is link below in
    let at_q : get_or order q 0 ≡ link = get_or_default order q 0 link in_order ∙ there in
    let rank : get_or ranks link 0 ≡ q = sym (ap (λ l. get_or ranks l 0) at_q) ∙ are.each q in_order in
    (omega (arith, rank), ap (λ k. get_or order k 0) rank ∙ at_q)

-- one more rank is written
pub rank_more : (rows : List LinkRow) (order ranks : List ℕ) (rank : ℕ) → IsLinkOrder rows order → length ranks ≡ length order → rank < length order → ((k : ℕ) → k < rank → get_or ranks (get_or order k 0) 0 ≡ k) → (k : ℕ) → k < rank + 1 → get_or (set ranks (get_or order rank 0) rank) (get_or order k 0) 0 ≡ k
rank_more rows order ranks rank is same below each k lt =
    elim (cases_eq k rank) [
      | inl at ↦
          let inside = below_rows rows order is rank 0 below in
          get_or-set_at ranks (get_or order rank 0) (get_or order k 0) rank 0 (ap (λ i. get_or order i 0) at) (omega (arith, length_order rows order is)) ∙ sym at
      | inr other ↦ get_or-set_other ranks (get_or order rank 0) (get_or order k 0) rank 0 (ranks_apart rows order is k rank (omega arith) below other) ∙ each k (omega arith)
    ]

-- the links between two counts
module _ (rows : List LinkRow) (order : List ℕ) (consumer : DevId) (from to : ℕ) (is : IsLinkOrder rows order) (low : IsCountBelow (consumer_at rows) order consumer.0 from) (high : IsCountBelow (consumer_at rows) order (consumer.0 + 1) to) where
  abbrev part : List ℕ
  part = take (to - from) (drop from order)

  length-part : length part ≤ to - from
  length-part = omega (arith, length-take (to - from) (drop from order))

  part_at : (k d : ℕ) → k < to - from → get_or part k d ≡ get_or order (from + k) d
  part_at k d lt = get_or-take (to - from) (drop from order) k d lt ∙ get_or-drop from order k d

  -- the consumer of each
  part_is_own : (k d : ℕ) → k < to - from → consumer_at rows (get_or order (from + k) d) ≡ consumer.0
  part_is_own k d lt =
      let not_below = low.after (from + k) d (omega arith) (omega (arith, high.in_range)) in
      let not_above = high.before (from + k) d (omega arith) in
      omega arith

  part_is_own_list : IsOwn rows consumer part
  part_is_own_list = record {
    each = λ k d lt.
        let below : k < to - from = omega (arith, length-part) in
        let Is : ℕ → Type 0 = λ link. (link < length rows) × (consumer_at rows link ≡ consumer.0) in
        subst Is (sym (part_at k d below)) (below_rows rows order is (from + k) d (omega (arith, high.in_range)), part_is_own k d below);
    every = λ link below mine.
        let (q, in_order, there) = stands_in_order rows order is link below in
        let at_q : consumer_at rows (get_or order q link) ≡ consumer.0 = ap (consumer_at rows) there ∙ mine in
        let from_le : from ≤ q = elim (cases_lt q from) [ inl lt ↦ let h = low.before q link lt in absurd (omega arith) | inr le ↦ le ] in
        let lt_to : q < to = elim (cases_lt q to) [ inl lt ↦ lt | inr le ↦ let h = high.after q link le in_order in absurd (omega arith) ] in
        let back : from + (q - from) ≡ q = omega arith in
        (q - from, omega (arith, length-take (to - from) (drop from order), length-drop from order, high.in_range), part_at (q - from) link (omega arith) ∙ ap (λ k. get_or order k link) back ∙ there);
    rising = λ i j d le lt.
        let below_i : i < to - from = omega (arith, length-part) in
        let below_j : j < to - from = omega (arith, length-part) in
        rw (part_at i d below_i, part_at j d below_j) (suppliers_rise rows (get_or order (from + i) d) (get_or order (from + j) d)
        (sorted_far (λ a b. is_lt (by_pair rows a b)) (by_pair_ranks rows) order is.sorted (from + i) (from + j) d (omega arith) (omega (arith, high.in_range)))
        (part_is_own j d below_j ∙ sym (part_is_own i d below_i)));
  }

  pub own_between : IsOwnAt rows order consumer from part
  own_between = record {
    links = part_is_own_list;
    in_range = omega (arith, length-part, high.in_range, low.in_range, counts_rise (consumer_at rows) order consumer.0 (consumer.0 + 1) from to (omega arith) low high);
    at = λ k d lt. part_at k d (omega (arith, length-part));
  }

-- the suppliers of a consumer's links do not fall
pub suppliers_of_own_rise : (rows : List LinkRow) (consumer : DevId) (own : List ℕ) → IsOwn rows consumer own → IsRisingBy (supplier_at rows) own
suppliers_of_own_rise rows consumer own is i j d le below =
    elim (is.rising i j d le below) [ inl less ↦ omega arith | inr same ↦ omega (arith, same.0) ]
