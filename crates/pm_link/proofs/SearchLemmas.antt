-- The first of a consumer's links by their marks is the first that is looked for.
use Rattle.std.proofs.Common.{◌≡◌, ◌≢◌, ℕ, ◌+◌, ◌-◌, ◌<◌, ◌≤◌, Bool, true, false, not, ◌&&◌, List, Option, Some, None, map, length, get_or, refl, sym, ap, ◌∙◌, subst, inl, inr, arith}
use Rattle.std.specs.Prelude.{nat_eq, nat_le}
use Rattle.std.proofs.lemmas.Bool.{cases_lt, eq-eqb, le-leb, lt-leb, lt-ltb, ne_eqb}
use Rattle.std.proofs.lemmas.Bool.Decides.{nat_tests}
use Rattle.std.proofs.lemmas.List.{get_or-map}
use Rattle.pm_base.specs.declared.DevId.{DevId}
use Rattle.pm_model.specs.declared.rows.LinkRow.{LinkRow}
use Rattle.pm_model.specs.Derived.{is_above}
use Rattle.pm_index.specs.Marks.{is_marked}
use Rattle.pm_link.specs.declared.marks.Marks.{Marks}
use Rattle.pm_link.specs.declared.search.Want.TheVariants.{Held, Free, Above, To, Taken}
use Rattle.pm_link.specs.Links.{bit_at, row_at}
use Rattle.pm_link.specs.LinkOrder.{IsCountBelow, IsFirst, IsFirstIn, IsOwn, IsOwnAt, IsRisingBy, consumer_at, supplier_at}
use Rattle.pm_link.specs.Marked.{AreMarks, is_live_at}
use Rattle.pm_link.specs.Wanted.{bound_of, is_wanted_at}
use Rattle.pm_link.proofs.FirstLemmas.{ArePassesOf, first_found, first_missing, is_wanted_own}

-- the first of a consumer's own, by its place among them
pub first_in : (rows : List LinkRow) (d : DevId) (own : List ℕ) (passes tests : ℕ → Bool) (found : Option ℕ) → IsOwn rows d own → ArePassesOf passes rows d → IsFirstIn tests own found → ((k : ℕ) → k < length own → tests k ≡ passes (get_or own k 0)) → IsFirst passes rows found
first_in rows d own passes tests None is of first same =
    first_missing rows d own passes is of (λ k lt. sym (same k lt) ∙ first.missing k lt)
first_in rows d own passes tests (Some link) is of first same =
    let (q, lt, at, pass, fails) = first.found in
    subst (λ (l : ℕ). IsFirst passes rows (Some l)) (sym at)
    (first_found rows d own passes is of q lt (sym (same q lt) ∙ pass) (λ k before. sym (same k (omega arith)) ∙ fails k before))

-- whether a supplier stands above the last one, and up to it
above_bound : (last : Option DevId) (s : DevId) → bound_of last ≤ s.0 → is_above last s ≡ true
above_bound None s le = refl
above_bound (Some last) s le = lt-ltb last.0 s.0 (omega arith)

below_bound : (last : Option DevId) (s : DevId) → s.0 < bound_of last → is_above last s ≡ false
below_bound None s lt = absurd (omega arith)
below_bound (Some last) s lt = let le : s.0 ≤ last.0 = omega arith in grind (arith, nat_tests)

module _ (rows : List LinkRow) (order : List ℕ) (held present : List Bool) (marks : Marks) (are : AreMarks rows order held present marks) (d : DevId) (from : ℕ) (own : List ℕ) (at : IsOwnAt rows order d from own) where
  -- the mark of one of the consumer's own
  mark_of : (list : List Bool) (test : ℕ → Bool) → list ≡ map test order → (k : ℕ) → k < length own → is_marked list (from + k) ≡ test (get_or own k 0)
  mark_of list test is k lt =
      ap (λ ms. get_or ms (from + k) false) is ∙ get_or-map test order (from + k) 0 false (omega (arith, at.in_range)) ∙ ap test (sym (at.at k 0 lt))

  own_is : (k : ℕ) → k < length own → nat_eq (consumer_at rows (get_or own k 0)) d.0 ≡ true
  own_is k lt = eq-eqb (consumer_at rows (get_or own k 0)) d.0 (at.links.each k 0 lt).1

  all_behind : (k : ℕ) → nat_le 0 k ≡ true
  all_behind k = le-leb 0 k (omega arith)

  pub first_held_is : (found : Option ℕ) → IsFirstIn (λ k. nat_le 0 k && is_marked marks.live_held (from + k)) own found → IsFirst (is_wanted_at Held d rows held present) rows found
  first_held_is found first = first_in rows d own (is_wanted_at Held d rows held present) _ found at.links (is_wanted_own Held d rows held present) first (λ k lt.
      let link = get_or own k 0 in
      ap (λ b. b && is_marked marks.live_held (from + k)) (all_behind k)
      ∙ mark_of marks.live_held (λ l. is_live_at rows present l && bit_at held l) are.of_live_held k lt
      ∙ sym (ap (λ b. b && (row_at rows link).pm_runtime && bit_at present link && bit_at held link) (own_is k lt)))

  pub first_free_is : (found : Option ℕ) → IsFirstIn (λ k. nat_le 0 k && is_marked marks.live_free (from + k)) own found → IsFirst (is_wanted_at Free d rows held present) rows found
  first_free_is found first = first_in rows d own (is_wanted_at Free d rows held present) _ found at.links (is_wanted_own Free d rows held present) first (λ k lt.
      let link = get_or own k 0 in
      ap (λ b. b && is_marked marks.live_free (from + k)) (all_behind k)
      ∙ mark_of marks.live_free (λ l. is_live_at rows present l && not (bit_at held l)) are.of_live_free k lt
      ∙ sym (ap (λ b. b && (row_at rows link).pm_runtime && bit_at present link && not (bit_at held link)) (own_is k lt)))

  pub first_taken_is : (found : Option ℕ) → IsFirstIn (λ k. nat_le 0 k && is_marked marks.held (from + k)) own found → IsFirst (is_wanted_at Taken d rows held present) rows found
  first_taken_is found first = first_in rows d own (is_wanted_at Taken d rows held present) _ found at.links (is_wanted_own Taken d rows held present) first (λ k lt.
      let link = get_or own k 0 in
      ap (λ b. b && is_marked marks.held (from + k)) (all_behind k)
      ∙ mark_of marks.held (bit_at held) are.of_held k lt
      ∙ sym (ap (λ b. b && bit_at held link) (own_is k lt)))

  pub first_to_is : (s : DevId) (found : Option ℕ) → IsFirstIn (λ k. nat_eq (supplier_at rows (get_or own k 0)) s.0) own found → IsFirst (is_wanted_at (To s) d rows held present) rows found
  first_to_is s found first = first_in rows d own (is_wanted_at (To s) d rows held present) _ found at.links (is_wanted_own (To s) d rows held present) first (λ k lt.
      sym (ap (λ b. b && nat_eq (supplier_at rows (get_or own k 0)) s.0) (own_is k lt)))

  pub first_above_is : (last : Option DevId) (behind : ℕ) (found : Option ℕ) → IsCountBelow (supplier_at rows) own (bound_of last) behind → IsFirstIn (λ k. nat_le behind k && is_marked marks.live (from + k)) own found → IsFirst (is_wanted_at (Above last) d rows held present) rows found
  first_above_is last behind found count first = first_in rows d own (is_wanted_at (Above last) d rows held present) _ found at.links (is_wanted_own (Above last) d rows held present) first (λ k lt.
      let link = get_or own k 0 in
      let live = is_live_at rows present link in
      ap (λ b. nat_le behind k && b) (mark_of marks.live (is_live_at rows present) are.of_live k lt)
      ∙ elim (cases_lt k behind) [
        | inl before ↦ ap (λ b. b && live) (lt-leb behind k before) ∙ sym (and_false live (is_above last (row_at rows link).supplier) (below_bound last (row_at rows link).supplier (count.before k 0 before)))
        | inr after ↦ ap (λ b. b && live) (le-leb behind k after) ∙ sym (and_true live (is_above last (row_at rows link).supplier) (above_bound last (row_at rows link).supplier (count.after k 0 after lt)))
      ]
      ∙ sym (ap (λ b. b && (row_at rows link).pm_runtime && bit_at present link && is_above last (row_at rows link).supplier) (own_is k lt)))
    where
      and_false : (x y : Bool) → y ≡ false → x && y ≡ false
      and_false true y is = is
      and_false false y is = refl

      and_true : (x y : Bool) → y ≡ true → x && y ≡ x
      and_true true y is = is
      and_true false y is = refl

-- a search in the marks
pub marked_found : (list : List Bool) (own : List ℕ) (from behind i : ℕ) → from + behind ≤ i → is_marked list i ≡ true → ((j : ℕ) → from + behind ≤ j → j < i → is_marked list j ≡ false) → i - from < length own → IsFirstIn (λ k. nat_le behind k && is_marked list (from + k)) own (Some (get_or own (i - from) 0))
marked_found list own from behind i above set first inside = record {
  found = (
    i - from,
    inside,
    refl,
    ap (λ b. b && is_marked list (from + (i - from))) (le-leb behind (i - from) (omega arith)) ∙ ap (is_marked list) (omega (arith, above)) ∙ set,
    λ k before.
        elim (cases_lt k behind) [
          | inl skipped ↦ ap (λ b. b && is_marked list (from + k)) (lt-leb behind k skipped)
          | inr reached ↦ ap (λ b. b && is_marked list (from + k)) (le-leb behind k reached) ∙ first (from + k) (omega arith) (omega arith)
        ],
  );
  missing = tt;
}

pub marked_missing : (list : List Bool) (own : List ℕ) (from behind end : ℕ) → from + length own ≤ end → ((j : ℕ) → from + behind ≤ j → j < end → is_marked list j ≡ false) → IsFirstIn (λ k. nat_le behind k && is_marked list (from + k)) own None
marked_missing list own from behind end within none = record {
  found = tt;
  missing = λ k before.
      elim (cases_lt k behind) [
        | inl skipped ↦ ap (λ b. b && is_marked list (from + k)) (lt-leb behind k skipped)
        | inr reached ↦ ap (λ b. b && is_marked list (from + k)) (le-leb behind k reached) ∙ none (from + k) (omega arith) (omega arith)
      ];
}

-- a search for a supplier
pub supplier_found : (rows : List LinkRow) (own : List ℕ) (s q : ℕ) → IsCountBelow (supplier_at rows) own s q → q < length own → supplier_at rows (get_or own q 0) ≡ s → IsFirstIn (λ k. nat_eq (supplier_at rows (get_or own k 0)) s) own (Some (get_or own q 0))
supplier_found rows own s q count inside is = record {
  found = (q, inside, refl, eq-eqb (supplier_at rows (get_or own q 0)) s is, λ k before. ne_eqb (supplier_at rows (get_or own k 0)) s (omega (arith, count.before k 0 before)));
  missing = tt;
}

pub supplier_missing : (rows : List LinkRow) (own : List ℕ) (s q : ℕ) → IsCountBelow (supplier_at rows) own s q → IsRisingBy (supplier_at rows) own → (q < length own → supplier_at rows (get_or own q 0) ≢ s) → IsFirstIn (λ k. nat_eq (supplier_at rows (get_or own k 0)) s) own None
supplier_missing rows own s q count rising other = record {
  found = tt;
  missing = λ k inside. ne_eqb (supplier_at rows (get_or own k 0)) s (
      elim (cases_lt k q) [
        | inl before ↦ omega (arith, count.before k 0 before)
        | inr after ↦
            let differs = other (omega arith) in
            let at_least = count.after q 0 (omega arith) (omega arith) in
            omega (arith, differs, at_least, rising q k 0 after inside)
      ]);
}
