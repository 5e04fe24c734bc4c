-- The first of a consumer's links that passes, in the words of `least_link` and of `position`.
use Rattle.std.proofs.Common.{◌≡◌, ℕ, zero, suc, ◌+◌, ◌<◌, ◌≤◌, ◌⊎◌, Bool, true, false, List, [], ◌∷◌, Option, Some, None, length, get_or, refl, sym, ap, ◌∙◌, subst, inl, inr, arith}
use Rattle.std.specs.Prelude.{nat_eq, nat_le, option_map, position}
use Rattle.std.proofs.lemmas.Bool.{and_parts, cases_Bool, cases_cond, cases_lt, cond-false, cond-true, eqb-true, false_from_ne_true, le-leb, lt-leb, true≢false}
use Rattle.std.proofs.lemmas.List.{get_or_default}
use Rattle.std.proofs.lemmas.Option.{none-some, same_Some}
use Rattle.pm_base.specs.declared.DevId.{DevId}
use Rattle.pm_model.specs.declared.rows.LinkRow.{LinkRow}
use Rattle.pm_model.specs.Derived.{least_link, nearer}
use Rattle.pm_model.specs.PlanRows.{is_of_pair}
use Rattle.pm_model.proofs.PlaceNamed.{position-first, position-none}
use Rattle.pm_link.specs.declared.search.Want.{Want}
use Rattle.pm_link.specs.declared.search.Want.TheVariants.{Held, Free, Above, To, Taken}
use Rattle.pm_link.specs.Links.{no_link, row_at, with_supplier}
use Rattle.pm_link.specs.LinkOrder.{IsFirst, IsNoFurther, IsOwn, consumer_at, supplier_at}
use Rattle.pm_link.specs.Wanted.{is_wanted, is_wanted_at}

-- only links of a consumer pass
abbrev pub ArePassesOf : (ℕ → Bool) → List LinkRow → DevId → Type 0
ArePassesOf passes rows d = (link : ℕ) → passes link ≡ true → consumer_at rows link ≡ d.0

wanted_own : (want : Want) (d : DevId) (row : LinkRow) (held present : Bool) → is_wanted want d row held present ≡ true → row.consumer.0 ≡ d.0
wanted_own Held d row held present pass = eqb-true row.consumer.0 d.0 (and_parts _ _ (and_parts _ _ (and_parts _ _ pass).0).0).0
wanted_own Free d row held present pass = eqb-true row.consumer.0 d.0 (and_parts _ _ (and_parts _ _ (and_parts _ _ pass).0).0).0
wanted_own (Above last) d row held present pass = eqb-true row.consumer.0 d.0 (and_parts _ _ (and_parts _ _ (and_parts _ _ pass).0).0).0
wanted_own (To supplier) d row held present pass = eqb-true row.consumer.0 d.0 (and_parts _ _ pass).0
wanted_own Taken d row held present pass = eqb-true row.consumer.0 d.0 (and_parts _ _ pass).0

pub is_wanted_own : (want : Want) (d : DevId) (rows : List LinkRow) (held present : List Bool) → ArePassesOf (is_wanted_at want d rows held present) rows d
is_wanted_own want d rows held present link pass = wanted_own want d (row_at rows link) (get_or held link false) (get_or present link false) pass

-- a link of the consumer, by its place among its own
own_at : (rows : List LinkRow) (d : DevId) (own : List ℕ) → IsOwn rows d own → (link : ℕ) → link < length rows → consumer_at rows link ≡ d.0 → (k : ℕ) × (k < length own) × (get_or own k 0 ≡ link)
own_at rows d own is link below mine =
    let (k, lt, there) = is.every link below mine in
    (k, lt, get_or_default own k 0 link lt ∙ there)

-- the first that passes
pub first_found : (rows : List LinkRow) (d : DevId) (own : List ℕ) (passes : ℕ → Bool) → IsOwn rows d own → ArePassesOf passes rows d → (q : ℕ) → q < length own → passes (get_or own q 0) ≡ true → ((k : ℕ) → k < q → passes (get_or own k 0) ≡ false) → IsFirst passes rows (Some (get_or own q 0))
first_found rows d own passes is of q lt pass fails = record {
  found = (
    (is.each q 0 lt).0,
    pass,
    λ k below passes_k.
        let (m, in_own, there) = own_at rows d own is k below (of k passes_k) in
        let le : q ≤ m = elim (cases_lt m q) [ inl before ↦ absurd (true≢false (sym passes_k ∙ sym (ap passes there) ∙ fails m before)) | inr after ↦ after ] in
        subst (λ (link : ℕ). IsNoFurther rows (get_or own q 0) link) there (is.rising q m 0 le in_own),
  );
  missing = tt;
}

-- none passes
pub first_missing : (rows : List LinkRow) (d : DevId) (own : List ℕ) (passes : ℕ → Bool) → IsOwn rows d own → ArePassesOf passes rows d → ((k : ℕ) → k < length own → passes (get_or own k 0) ≡ false) → IsFirst passes rows None
first_missing rows d own passes is of fails = record {
  found = tt;
  missing = λ k below. false_from_ne_true (passes k) (λ pass.
      let (m, in_own, there) = own_at rows d own is k below (of k pass) in
      true≢false (sym pass ∙ sym (ap passes there) ∙ fails m in_own));
}

-- which of the two is the nearer
nearer_is : (x : ℕ × DevId) (o : Option (ℕ × DevId)) (y : ℕ × DevId) → nearer x o ≡ Some y → (y ≡ x) ⊎ (o ≡ Some y)
nearer_is x None y is = inl (sym (same_Some x y is))
nearer_is x (Some z) y is =
    elim (cases_cond (nat_le x.1.0 z.1.0) (Some x) (Some z) (Some y) (sym is)) [ inl first ↦ inl (same_Some y x first) | inr second ↦ inr (sym second) ]

nearer_first : (x : ℕ × DevId) (o : Option (ℕ × DevId)) → ((y : ℕ × DevId) → o ≡ Some y → x.1.0 ≤ y.1.0) → nearer x o ≡ Some x
nearer_first x None before = refl
nearer_first x (Some y) before = cond-true (nat_le x.1.0 y.1.0) (Some x) (Some y) (le-leb x.1.0 y.1.0 (before y refl))

nearer_second : (x y : ℕ × DevId) → y.1.0 < x.1.0 → nearer x (Some y) ≡ Some y
nearer_second x y before = cond-false (nat_le x.1.0 y.1.0) (Some x) (Some y) (lt-leb x.1.0 y.1.0 before)

-- a test of a link by its row and its bits
abbrev at_link : (LinkRow → Bool → Bool → Bool) → List LinkRow → List Bool → List Bool → ℕ → Bool
at_link test rows held present k = test (row_at rows k) (get_or held k false) (get_or present k false)

-- some link passes, and has this supplier
abbrev PassesWith : (LinkRow → Bool → Bool → Bool) → List LinkRow → List Bool → List Bool → ℕ → Type 0
PassesWith test rows held present supplier =
    (k : ℕ) × (k < length rows) × (at_link test rows held present k ≡ true) × (supplier_at rows k ≡ supplier)

-- as what `least_link` answers does
least_passes : (test : LinkRow → Bool → Bool → Bool) (i : ℕ) (rows : List LinkRow) (held present : List Bool) (y : ℕ × DevId) → least_link test i rows held present ≡ Some y → PassesWith test rows held present y.1.0
least_passes test i [] held present y is = absurd (none-some y is)
least_passes test i (row ∷ rows) [] present y is = absurd (none-some y is)
least_passes test i (row ∷ rows) (h ∷ held) [] y is = absurd (none-some y is)
least_passes test i (row ∷ rows) (h ∷ held) (p ∷ present) y is =
    let rest : least_link test (i + 1) rows held present ≡ Some y → PassesWith test (row ∷ rows) (h ∷ held) (p ∷ present) y.1.0 = λ later.
    let (k, lt, pass, has) = least_passes test (i + 1) rows held present y later in
    (suc k, omega arith, pass, has)
    in
    elim (cases_Bool (test row h p)) [
      | inl pass ↦ elim (nearer_is (i, row.supplier) (least_link test (i + 1) rows held present) y (sym (cond-true _ _ _ pass) ∙ is)) [
        | inl here ↦ (0, omega arith, pass, sym (ap (λ (z : ℕ × DevId). z.1.0) here))
        | inr later ↦ rest later
      ]
      | inr fail ↦ rest (sym (cond-false _ _ _ fail) ∙ is)
    ]

-- no link passes
least_none : (test : LinkRow → Bool → Bool → Bool) (i : ℕ) (rows : List LinkRow) (held present : List Bool) → ((k : ℕ) → k < length rows → at_link test rows held present k ≡ false) → least_link test i rows held present ≡ None
least_none test i [] held present fails = refl
least_none test i (row ∷ rows) [] present fails = refl
least_none test i (row ∷ rows) (h ∷ held) [] fails = refl
least_none test i (row ∷ rows) (h ∷ held) (p ∷ present) fails =
    cond-false (test row h p) _ _ (fails 0 (omega arith)) ∙ least_none test (i + 1) rows held present (λ k lt. fails (suc k) (omega arith))

-- of links in order, the first has no greater supplier
no_greater : (rows : List LinkRow) (a b : ℕ) → IsNoFurther rows a b → supplier_at rows a ≤ supplier_at rows b
no_greater rows a b first = elim first [ inl less ↦ omega arith | inr same ↦ omega (arith, same.0) ]

-- equal places of one supplier
same_place : (m n : ℕ) (supplier : DevId) → m ≡ n → ◌≡◌ {A = Option (ℕ × DevId)} (Some (m, supplier)) (Some (n, supplier))
same_place m n supplier same = cc

-- the first that passes is the least link
least_some : (test : LinkRow → Bool → Bool → Bool) (i : ℕ) (rows : List LinkRow) (held present : List Bool) (j : ℕ) → length held ≡ length rows → length present ≡ length rows → j < length rows → at_link test rows held present j ≡ true → ((k : ℕ) → k < length rows → at_link test rows held present k ≡ true → IsNoFurther rows j k) → least_link test i rows held present ≡ Some (i + j, (row_at rows j).supplier)
least_some test i [] held present j hs ps lt pass first = absurd (omega arith)
least_some test i (row ∷ rows) [] present j hs ps lt pass first = absurd (omega arith)
least_some test i (row ∷ rows) (h ∷ held) [] j hs ps lt pass first = absurd (omega arith)
least_some test i (row ∷ rows) (h ∷ held) (p ∷ present) zero hs ps lt pass first =
    let before : (y : ℕ × DevId) → least_link test (i + 1) rows held present ≡ Some y → row.supplier.0 ≤ y.1.0 = λ y is.
    let (k, lt_k, pass_k, has) = least_passes test (i + 1) rows held present y is in
    let le = no_greater (row ∷ rows) 0 (suc k) (first (suc k) (omega arith) pass_k) in
    omega (arith, le, has)
    in
    let here : i ≡ i + 0 = omega arith in
    cond-true (test row h p) _ _ pass ∙ nearer_first (i, row.supplier) (least_link test (i + 1) rows held present) before ∙ same_place i (i + 0) row.supplier here
least_some test i (row ∷ rows) (h ∷ held) (p ∷ present) (suc j) hs ps lt pass first =
    let found : least_link test (i + 1) rows held present ≡ Some (i + 1 + j, (row_at rows j).supplier) =
    least_some test (i + 1) rows held present j (omega arith) (omega arith) (omega arith) pass (λ k lt_k pass_k. later rows row j k (first (suc k) (omega arith) pass_k))
    in
    let next : i + 1 + j ≡ i + suc j = omega arith in
    let rest : Option (ℕ × DevId) = least_link test (i + 1) rows held present in
    let at = same_place (i + 1 + j) (i + suc j) (row_at rows j).supplier next in
    elim (cases_Bool (test row h p)) [
      | inl here ↦
          let behind : nearer (i, row.supplier) rest ≡ Some (i + 1 + j, (row_at rows j).supplier) =
          ap (nearer (i, row.supplier)) found ∙ nearer_second (i, row.supplier) (i + 1 + j, (row_at rows j).supplier) (less rows row j (first 0 (omega arith) here))
          in
          cond-true (test row h p) (nearer (i, row.supplier) rest) rest here ∙ behind ∙ at
      | inr fail ↦ cond-false (test row h p) (nearer (i, row.supplier) rest) rest fail ∙ found ∙ at
    ]
  where
    later : (rows : List LinkRow) (row : LinkRow) (j k : ℕ) → IsNoFurther (row ∷ rows) (suc j) (suc k) → IsNoFurther rows j k
    later rows row j k first = elim first [ inl below ↦ inl below | inr same ↦ inr (same.0, omega (arith, same.1)) ]

    less : (rows : List LinkRow) (row : LinkRow) (j : ℕ) → IsNoFurther (row ∷ rows) (suc j) 0 → supplier_at rows j < row.supplier.0
    less rows row j first = elim first [ inl below ↦ below | inr same ↦ absurd (omega (arith, same.1)) ]

-- so the first of a consumer's links that passes is the one that `least_link` answers
pub least_from_first : (test : LinkRow → Bool → Bool → Bool) (rows : List LinkRow) (held present : List Bool) (found : Option ℕ) → length held ≡ length rows → length present ≡ length rows → IsFirst (at_link test rows held present) rows found → least_link test 0 rows held present ≡ option_map (with_supplier rows) found
least_from_first test rows held present None hs ps first = least_none test 0 rows held present first.missing
least_from_first test rows held present (Some l) hs ps first =
    let here : 0 + l ≡ l = omega arith in
    least_some test 0 rows held present l hs ps first.found.0 first.found.1 first.found.2 ∙ same_place (0 + l) l (row_at rows l).supplier here

-- the link of a pair is the first of its consumer's that is of the pair
pub position_from_first : (consumer supplier : DevId) (rows : List LinkRow) (passes : ℕ → Bool) (found : Option ℕ) → ((k : ℕ) → passes k ≡ is_of_pair consumer supplier (row_at rows k)) → IsFirst passes rows found → found ≡ position (is_of_pair consumer supplier) rows
position_from_first consumer supplier rows passes None same first =
    sym (position-none (is_of_pair consumer supplier) rows no_link (λ k lt. sym (same k) ∙ first.missing k lt))
position_from_first consumer supplier rows passes (Some l) same first =
    let fails : (k : ℕ) → k < l → is_of_pair consumer supplier (row_at rows k) ≡ false = λ k before. false_from_ne_true (is_of_pair consumer supplier (row_at rows k)) (λ pass.
    let after = first.found.2 k (omega arith) (same k ∙ pass) in
    let one = eqb-true (supplier_at rows l) supplier.0 (and_parts (nat_eq (consumer_at rows l) consumer.0) (nat_eq (supplier_at rows l) supplier.0) (sym (same l) ∙ first.found.1)).1 in
    let other = eqb-true (supplier_at rows k) supplier.0 (and_parts (nat_eq (consumer_at rows k) consumer.0) (nat_eq (supplier_at rows k) supplier.0) pass).1 in
    elim after [ inl apart ↦ omega arith | inr tied ↦ omega (arith, tied.1) ])
    in
    sym (position-first (is_of_pair consumer supplier) rows l no_link first.found.0 (sym (same l) ∙ first.found.1) fails)
