-- What the set and the leaves of a tree say of the places that they stand for.
use Rattle.std.proofs.Common.{◌≡◌, ◌≢◌, ◌+◌, ◌-◌, ◌*◌, ◌^◌, ◌<◌, ◌≤◌, ℕ, Bool, true, false, cond, leb, ltb, List, Option, Some, None, drop, get_or, length, min, replicate, set, sym, ap, ◌∙◌, subst, inl, inr, arith}
use Rattle.std.proofs.lemmas.List.{get_or-drop, get_or-replicate, get_or-set_other, get_or-set_same, get_or_past, length-drop, length-replicate, length-set}
use Rattle.std.proofs.lemmas.List.FromFn.{fill_by_all, get_or-map-range_with_len, length-map-range_with_len}
use Rattle.std.proofs.lemmas.Bool.{cases_eq, cases_lt, false≢true}
use Rattle.std.proofs.lemmas.Bool.Decides.{nat_tests}
use Rattle.std.proofs.lemmas.Option.{none-some}
use Rattle.std.proofs.Math.Pow.{pow_mono}
use Rattle.std.specs.Option.{is_some}
use Rattle.std.specs.Prelude.{IfNone, IfSome, SomeIndex}
use Rattle.pm_index.specs.Marks.{NoneMarked, is_marked}
use Rattle.pm_index.specs.Moments.{NoneWithin, is_within, moment_of}
use Rattle.pm_index.specs.Tree.{AreKept, AreMoments, NoneUnder, first_leaf, is_now, later_of, lesser, moment_by, never, shown}
use Rattle.pm_index.proofs.TreeLemmas.{leaves_end, none_under, same_kept, some_under}

-- the moment of a place
abbrev pub place_moment : ℕ → List Bool → List ℕ → ℕ → Option ℕ
place_moment leaves at_once nodes i = moment_by (is_marked at_once i) (get_or nodes (leaves + i) 0)

-- the later moment that a number stands for
pub later_some : (key : ℕ) → key < never → later_of key ≡ Some (key + 1)
later_some key less = let test : ltb key never ≡ true = grind (arith, nat_tests) in ap (λ b. cond b (Some (key + 1)) None) test

pub later_none : (key : ℕ) → never ≤ key → later_of key ≡ None
later_none key more = let test : ltb key never ≡ false = grind (arith, nat_tests) in ap (λ b. cond b (Some (key + 1)) None) test

-- a number below a bound stands for a moment within it, and another for none
pub now_within : (bound : ℕ) → is_within bound (Some 0) ≡ true
now_within bound = grind (arith, nat_tests)

pub is_no_later : (at bound : ℕ) → at ≤ bound → leb at bound ≡ true
is_no_later at bound less = grind (arith, nat_tests)

pub is_later : (at bound : ℕ) → bound < at → leb at bound ≡ false
is_later at bound more = grind (arith, nat_tests)

pub moment_within : (mark : Bool) (key bound : ℕ) → key < bound → bound < 2 ^ 64 → is_within bound (moment_by mark key) ≡ true
moment_within true key bound less fits = now_within bound
moment_within false key bound less fits =
    ap (is_within bound) (later_some key (omega arith)) ∙ is_no_later (key + 1) bound (omega arith)

pub moment_not_within : (mark : Bool) (key bound : ℕ) → mark ≡ false → bound ≤ key → is_within bound (moment_by mark key) ≡ false
moment_not_within true key bound unmarked more = absurd (false≢true (sym unmarked))
moment_not_within false key bound unmarked more =
    elim (cases_lt key never) [
      | inl some ↦ ap (is_within bound) (later_some key some) ∙ is_later (key + 1) bound (omega arith)
      | inr none ↦ ap (is_within bound) (later_none key none)
    ]

-- the moments of no place
pub no_moments : (places leaves levels : ℕ) → levels ≤ 32 → leaves ≡ first_leaf 1 levels → places ≤ leaves → AreMoments places leaves levels (replicate places false) (replicate (2 * leaves) never)
no_moments places leaves levels low whole enough = record {
  low = low;
  whole = whole;
  halves = length-replicate (2 * leaves) never;
  enough = enough;
  marks = length-replicate places false;
  kept = same_kept (2 * leaves) never;
  empty = λ i past inside. get_or-replicate (2 * leaves) (leaves + i) never 0 (omega arith);
}

pub no_shown : (places leaves : ℕ) → places ≤ leaves → shown places leaves (replicate places false) (replicate (2 * leaves) never) ≡ replicate places None
no_shown places leaves enough =
    sym (fill_by_all (place_moment leaves (replicate places false) (replicate (2 * leaves) never)) (replicate places None) places None (length-replicate places None) (λ k below.
    let unmarked : is_marked (replicate places false) k ≡ false = get_or-replicate places k false false below in
    let key : get_or (replicate (2 * leaves) never) (leaves + k) 0 ≡ never = get_or-replicate (2 * leaves) (leaves + k) never 0 (omega arith) in
    get_or-replicate places k None None below ∙ sym (ap (λ mark. moment_by mark (get_or (replicate (2 * leaves) never) (leaves + k) 0)) unmarked ∙ ap later_of key ∙ later_none never (omega arith))))

-- of two places that fit, the lesser fits
pub lesser_found : (P : ℕ → Type 0) (a : Option ℕ) (y : ℕ) → IfSome a P → P y → IfSome (lesser a (Some y)) P
lesser_found P None y first second = second
lesser_found P (Some x) y first second =
    elim (cases_lt x y) [
      | inl less ↦ let is : min x y ≡ x = omega arith in subst P (sym is) first
      | inr more ↦ let is : min x y ≡ y = omega arith in subst P (sym is) second
    ]

pub lesser_some : (X : Type 0) (a : Option ℕ) (y : ℕ) → IfNone (lesser a (Some y)) X
lesser_some X None y = tt
lesser_some X (Some x) y = tt

pub for_some : (P Q : ℕ → Type 0) (r : Option ℕ) → ((i : ℕ) → P i → Q i) → IfSome r P → IfSome r Q
for_some P Q None each first = tt
for_some P Q (Some i) each first = each i first

pub for_none : (X Y : Type 0) (r : Option ℕ) → (X → Y) → IfNone r X → IfNone r Y
for_none X Y None each first = each first
for_none X Y (Some i) each first = tt

module _ (places leaves levels : ℕ) (at_once : List Bool) (nodes : List ℕ) (m : AreMoments places leaves levels at_once nodes) where
  pub shown_length : length (shown places leaves at_once nodes) ≡ places
  shown_length = length-map-range_with_len (place_moment leaves at_once nodes) 0 places

  pub at_place : (i : ℕ) → i < places → moment_of (shown places leaves at_once nodes) i ≡ place_moment leaves at_once nodes i
  at_place i within = get_or-map-range_with_len (place_moment leaves at_once nodes) 0 places i i None within (omega arith)

  pub past_places : (i : ℕ) → places ≤ i → moment_of (shown places leaves at_once nodes) i ≡ None
  past_places i past = get_or_past (shown places leaves at_once nodes) i None (omega (arith, shown_length))

  pub leaf_in_range : (i : ℕ) → i < places → leaves + i < length nodes
  leaf_in_range i within = omega (arith, m.halves, m.enough)

  pub few_leaves : leaves ≤ 2 ^ 32
  unfolding first_leaf
  few_leaves = omega (arith, m.whole, pow_mono m.low)

  -- a leaf that holds a later moment stands for a place
  pub is_place : (i : ℕ) → leaves + i < length nodes → get_or nodes (leaves + i) 0 < never → i < places
  is_place i inside some =
      elim (cases_lt i places) [
        | inl within ↦ within
        | inr past ↦ absurd (omega (arith, m.empty i past (omega (arith, m.halves)), m.halves))
      ]

  -- the moments after one is set
  module _ (place key : ℕ) (moment : Option ℕ) (next : List ℕ) (within : place < places) (put : drop leaves next ≡ set (drop leaves nodes) place key) (same : moment_by (is_now moment) key ≡ moment) where
    marked : List Bool
    marked = set at_once place (is_now moment)

    leaf_same : get_or next (leaves + place) 0 ≡ key
    leaf_same =
        let inside : place < length (drop leaves nodes) = omega (arith, length-drop leaves nodes, m.halves, m.enough) in
        sym (get_or-drop leaves next place 0) ∙ ap (λ leaf. get_or leaf place 0) put ∙ get_or-set_same (drop leaves nodes) place key 0 inside

    leaf_other : (i : ℕ) → i ≢ place → get_or next (leaves + i) 0 ≡ get_or nodes (leaves + i) 0
    leaf_other i other =
        sym (get_or-drop leaves next i 0) ∙ ap (λ leaf. get_or leaf i 0) put ∙ get_or-set_other (drop leaves nodes) place i key 0 other ∙ get_or-drop leaves nodes i 0

    pub set_shown : shown places leaves (set at_once place (is_now moment)) next ≡ set (shown places leaves at_once nodes) place moment
    set_shown =
        sym (fill_by_all (place_moment leaves (set at_once place (is_now moment)) next) (set (shown places leaves at_once nodes) place moment) places None (length-set (shown places leaves at_once nodes) place moment ∙ shown_length) (λ k below.
        elim (cases_eq k place) [
          | inl at ↦
              let is : place_moment leaves (set at_once place (is_now moment)) next place ≡ moment =
              ap (λ mark. moment_by mark (get_or next (leaves + place) 0)) (get_or-set_same at_once place (is_now moment) false (omega (arith, m.marks))) ∙ ap (moment_by (is_now moment)) leaf_same ∙ same in
              ap (λ i. get_or (set (shown places leaves at_once nodes) place moment) i None) at
              ∙ get_or-set_same (shown places leaves at_once nodes) place moment None (omega (arith, shown_length))
              ∙ sym (ap (place_moment leaves (set at_once place (is_now moment)) next) at ∙ is)
          | inr other ↦
              get_or-set_other (shown places leaves at_once nodes) place k moment None other
              ∙ at_place k below
              ∙ sym (ap (λ mark. moment_by mark (get_or next (leaves + k) 0)) (get_or-set_other at_once place k (is_now moment) false other) ∙ ap (moment_by (is_marked at_once k)) (leaf_other k other))
        ]))

    pub set_moments : length next ≡ length nodes → AreKept next → AreMoments places leaves levels (set at_once place (is_now moment)) next
    set_moments len kept = record {
      low = m.low;
      whole = m.whole;
      halves = len ∙ m.halves;
      enough = m.enough;
      marks = length-set at_once place (is_now moment) ∙ m.marks;
      kept = kept;
      empty = λ i past inside. let other : i ≢ place = omega arith in leaf_other i other ∙ m.empty i past inside;
    }

  -- a place that is in the set, or whose leaf holds less than the bound, has a moment within it
  pub marked_within : (from bound i : ℕ) → (from ≤ i) × (i < length at_once) × (is_marked at_once i ≡ true) → (from ≤ i) × (i < length (shown places leaves at_once nodes)) × (is_within bound (moment_of (shown places leaves at_once nodes) i) ≡ true)
  marked_within from bound i found =
      let within : i < places = omega (arith, found.1, m.marks) in
      (found.0, omega (arith, shown_length), ap (is_within bound) (at_place i within ∙ ap (λ mark. moment_by mark (get_or nodes (leaves + i) 0)) found.2) ∙ now_within bound)

  pub leaf_within : (from bound leaf : ℕ) → bound < 2 ^ 64 → (leaves + from ≤ leaf) × (leaf < length nodes) × (get_or nodes leaf 0 < bound) → (from ≤ leaf - leaves) × (leaf - leaves < length (shown places leaves at_once nodes)) × (is_within bound (moment_of (shown places leaves at_once nodes) (leaf - leaves)) ≡ true)
  leaf_within from bound leaf fits found =
      let back : leaves + (leaf - leaves) ≡ leaf = omega (arith, found.0) in
      let under : get_or nodes (leaves + (leaf - leaves)) 0 < bound = subst (λ (i : ℕ). get_or nodes i 0 < bound) (sym back) found.2 in
      let within : leaf - leaves < places = is_place (leaf - leaves) (omega (arith, found.1)) (omega arith) in
      (omega (arith, found.0), omega (arith, shown_length), ap (is_within bound) (at_place (leaf - leaves) within) ∙ moment_within (is_marked at_once (leaf - leaves)) (get_or nodes (leaves + (leaf - leaves)) 0) bound under fits)

  -- one that is not in the set, and whose leaf doesn't, has none
  pub not_within : (bound i : ℕ) → is_marked at_once i ≡ false → (i < places → bound ≤ get_or nodes (leaves + i) 0) → is_within bound (moment_of (shown places leaves at_once nodes) i) ≡ false
  not_within bound i unmarked key =
      elim (cases_lt i places) [
        | inl within ↦ ap (is_within bound) (at_place i within) ∙ moment_not_within (is_marked at_once i) (get_or nodes (leaves + i) 0) bound unmarked (key within)
        | inr past ↦ ap (is_within bound) (past_places i past)
      ]

  pub none_before : (from bound i high : ℕ) → NoneMarked at_once from i → NoneUnder nodes bound (leaves + from) high → (i ≤ places → leaves + i ≤ high) → i ≤ places → NoneWithin (shown places leaves at_once nodes) bound from i
  none_before from bound i high unmarked keys reach inside = λ j low below.
      not_within bound j (unmarked j low below) (λ within. keys (leaves + j) (omega arith) (omega (arith, reach inside)))

  -- where no leaf fits, the first place of the set is the first of all
  pub first_marked : (from bound : ℕ) (r : Option ℕ) → NoneUnder nodes bound (leaves + from) (length nodes) → IfSome r (λ i. (from ≤ i) × (i < length at_once) × (is_marked at_once i ≡ true)) → IfSome r (λ i. NoneMarked at_once from i) → IfSome r (λ i. NoneWithin (shown places leaves at_once nodes) bound from i)
  first_marked from bound None keys found first = tt
  first_marked from bound (Some i) keys found first =
      let within : i ≤ places = omega (arith, found.1, m.marks) in
      none_before from bound i (length nodes) first keys (λ inside. omega (arith, m.halves, m.enough)) within

  pub none_marked : (from bound : ℕ) (r : Option ℕ) → NoneUnder nodes bound (leaves + from) (length nodes) → IfNone r (NoneMarked at_once from (length at_once)) → IfNone r (NoneWithin (shown places leaves at_once nodes) bound from (length (shown places leaves at_once nodes)))
  none_marked from bound (Some i) keys missing = tt
  none_marked from bound None keys missing = λ j low below.
      let within : j < places = omega (arith, shown_length) in
      not_within bound j (missing j low (omega (arith, m.marks))) (λ inside. keys (leaves + j) (omega arith) (leaf_in_range j within))

  -- where one does, it is the lesser of both
  pub first_of_both : (from bound leaf : ℕ) (r : Option ℕ) → leaf - leaves < places → NoneUnder nodes bound (leaves + from) leaf → IfSome r (λ i. NoneMarked at_once from i) → IfNone r (NoneMarked at_once from (length at_once)) → IfSome (lesser r (Some (leaf - leaves))) (λ i. NoneWithin (shown places leaves at_once nodes) bound from i)
  first_of_both from bound leaf None within keys first missing = λ j low below.
      not_within bound j (missing j low (omega (arith, m.marks))) (λ inside. keys (leaves + j) (omega arith) (omega arith))
  first_of_both from bound leaf (Some i) within keys first missing = λ j low below.
      not_within bound j (first j low (omega arith)) (λ inside. keys (leaves + j) (omega arith) (omega arith))

  -- the least moment of all is 0 where the set has a place
  pub some_now : (r : Option ℕ) → is_some r ≡ true → IfSome r (λ i. (0 ≤ i) × (i < length at_once) × (is_marked at_once i ≡ true)) → SomeIndex (shown places leaves at_once nodes) (λ i. moment_of (shown places leaves at_once nodes) i ≡ Some 0)
  some_now None some found = absurd (false≢true some)
  some_now (Some i) some found =
      let within : i < places = omega (arith, found.1, m.marks) in
      (i, omega (arith, shown_length), at_place i within ∙ ap (λ mark. moment_by mark (get_or nodes (leaves + i) 0)) found.2)

  pub all_later : (r : Option ℕ) → is_some r ≡ false → IfNone r (NoneMarked at_once 0 (length at_once)) → (i : ℕ) → i < places → moment_of (shown places leaves at_once nodes) i ≡ later_of (get_or nodes (leaves + i) 0)
  all_later (Some i) none missing = absurd (false≢true (sym none))
  all_later None none missing = λ i within.
      at_place i within ∙ ap (λ mark. moment_by mark (get_or nodes (leaves + i) 0)) (missing i (omega arith) (omega (arith, m.marks)))

  module _ (later : (i : ℕ) → i < places → moment_of (shown places leaves at_once nodes) i ≡ later_of (get_or nodes (leaves + i) 0)) where
    top_end : first_leaf (1 + 1) levels ≡ length nodes
    top_end = omega (arith, leaves_end levels, m.whole, m.halves)

    -- no leaf holds less than the top node
    top_is_least : (i : ℕ) → i < places → get_or nodes 1 0 ≤ get_or nodes (leaves + i) 0
    top_is_least i within =
        none_under nodes (get_or nodes 1 0) m.kept levels 1 (omega arith) (omega (arith, top_end)) (omega arith) (leaves + i) (omega (arith, m.whole)) (omega (arith, top_end, leaf_in_range i within))

    pub least_held : IfSome (later_of (get_or nodes 1 0)) (λ at. SomeIndex (shown places leaves at_once nodes) (λ i. moment_of (shown places leaves at_once nodes) i ≡ Some at))
    least_held =
        elim (cases_lt (get_or nodes 1 0) never) [
          | inr none ↦ subst (λ (o : Option ℕ). IfSome o (λ at. SomeIndex (shown places leaves at_once nodes) (λ i. moment_of (shown places leaves at_once nodes) i ≡ Some at))) (sym (later_none (get_or nodes 1 0) none)) tt
          | inl some ↦
              let s = some_under nodes m.kept levels 1 (omega arith) (omega (arith, top_end)) in
              let back : leaves + (s.0 - leaves) ≡ s.0 = omega (arith, m.whole, s.1) in
              let holds : get_or nodes (leaves + (s.0 - leaves)) 0 ≡ get_or nodes 1 0 = ap (λ i. get_or nodes i 0) back ∙ s.3 in
              let within : s.0 - leaves < places = is_place (s.0 - leaves) (omega (arith, s.2, top_end)) (omega arith) in
              subst (λ (o : Option ℕ). IfSome o (λ at. SomeIndex (shown places leaves at_once nodes) (λ i. moment_of (shown places leaves at_once nodes) i ≡ Some at))) (sym (later_some (get_or nodes 1 0) some)) (s.0 - leaves, omega (arith, shown_length), later (s.0 - leaves) within ∙ ap later_of holds ∙ later_some (get_or nodes 1 0) some)
        ]

    -- what a place has, is no earlier
    no_earlier : (i other : ℕ) → moment_of (shown places leaves at_once nodes) i ≡ Some other → (get_or nodes 1 0 < never) × (get_or nodes 1 0 + 1 ≤ other)
    no_earlier i other holds =
        elim (cases_lt i places) [
          | inr past ↦ absurd (none-some other (sym (past_places i past) ∙ holds))
          | inl within ↦ elim (cases_lt (get_or nodes (leaves + i) 0) never) [
            | inr none ↦ absurd (none-some other (sym (later i within ∙ later_none (get_or nodes (leaves + i) 0) none) ∙ holds))
            | inl some ↦
                let is : Some (get_or nodes (leaves + i) 0 + 1) ≡ Some other = sym (later i within ∙ later_some (get_or nodes (leaves + i) 0) some) ∙ holds in
                let same : get_or nodes (leaves + i) 0 + 1 ≡ other = cc in
                let least = top_is_least i within in
                (omega arith, omega arith)
          ]
        ]

    pub least_first : IfSome (later_of (get_or nodes 1 0)) (λ at. (i other : ℕ) → moment_of (shown places leaves at_once nodes) i ≡ Some other → at ≤ other)
    least_first =
        elim (cases_lt (get_or nodes 1 0) never) [
          | inr none ↦ subst (λ (o : Option ℕ). IfSome o (λ at. (i other : ℕ) → moment_of (shown places leaves at_once nodes) i ≡ Some other → at ≤ other)) (sym (later_none (get_or nodes 1 0) none)) tt
          | inl some ↦ subst (λ (o : Option ℕ). IfSome o (λ at. (i other : ℕ) → moment_of (shown places leaves at_once nodes) i ≡ Some other → at ≤ other)) (sym (later_some (get_or nodes 1 0) some)) (λ i other holds. (no_earlier i other holds).1)
        ]

    none_anywhere : never ≤ get_or nodes 1 0 → (i : ℕ) → moment_of (shown places leaves at_once nodes) i ≡ None
    none_anywhere none i =
        elim (cases_lt i places) [
          | inr past ↦ past_places i past
          | inl within ↦ later i within ∙ later_none (get_or nodes (leaves + i) 0) (omega (arith, top_is_least i within))
        ]

    pub least_missing : IfNone (later_of (get_or nodes 1 0)) ((i : ℕ) → moment_of (shown places leaves at_once nodes) i ≡ None)
    least_missing =
        elim (cases_lt (get_or nodes 1 0) never) [
          | inl some ↦ subst (λ (o : Option ℕ). IfNone o ((i : ℕ) → moment_of (shown places leaves at_once nodes) i ≡ None)) (sym (later_some (get_or nodes 1 0) some)) tt
          | inr none ↦ subst (λ (o : Option ℕ). IfNone o ((i : ℕ) → moment_of (shown places leaves at_once nodes) i ≡ None)) (sym (later_none (get_or nodes 1 0) none)) (none_anywhere none)
        ]
