-- Each observation is told once.
use Rattle.std.proofs.Common.{◌≡◌, ◌<◌, ℕ, Bool, true, false, List, [], ◌∷◌, Option, Some, None, length, slice_get, get_or, refl, sym, ap, subst, ◌∙◌, inl, inr, arith}
use Rattle.std.proofs.lemmas.Bool.{cases_lt}
use Rattle.std.proofs.lemmas.List.Elements.{All-from_recursion, recursion_from_All}
use Rattle.std.proofs.lemmas.Map.Keys.{IsDistinct-IsPermutation, IsDistinct-cons, IsDistinct-from_apart, IsDistinct-head, IsDistinct-tail, apart_from_distinct}
use Rattle.std.proofs.lemmas.Option.{get_or_from_slice_get, slice_get-get_or, slice_get_within}
use Rattle.std.specs.List.{AllByRecursion, IsDistinct, cons_option, filter_map}
use Rattle.std.specs.List.Sorted.{IsPermutation}
use Rattle.pm_outcomes.specs.declared.list.observations.Observation.{Observation}
use Rattle.pm_outcomes.specs.declared.list.observations.Outcome.{Outcome}
use Rattle.pm_outcomes.specs.contracts.list.observations.ObservationEq.TheImpl.Laws.{laws-law}
use Rattle.pm_outcomes.specs.contracts.list.observations.ObservationPartialEq.TheImpl.{eq-value}
use Rattle.pm_outcomes.specs.list.Firsts.{AreFirsts}
use Rattle.pm_outcomes.specs.list.Listing.{outcome_of}
use Rattle.pm_outcomes.proofs.list.ObservationAlike.{alike, itself}
use Rattle.pm_outcomes.specs.find.Had.{IsListedOnce}
use Rattle.pm_outcomes.proofs.find.Among.{told_from}
use Rattle.pm_outcomes.proofs.find.Telling.{told_is}

-- of one observation, as the derived test has it
abbrev first_eq : (Observation × ℕ) → (Observation × ℕ) → Bool
first_eq e f = eq-value.it e.0 f.0

abbrev told_eq : Outcome → Outcome → Bool
told_eq o p = eq-value.it o.observation p.observation

firsts_apart : (seen firsts : List (Observation × ℕ)) → AreFirsts seen firsts → IsDistinct first_eq firsts
firsts_apart seen firsts r = IsDistinct-from_apart first_eq firsts (λ i j d lt within. by i j d lt within (first_eq (get_or firsts i d) (get_or firsts j d)) refl)
  where
    by : (i j : ℕ) (d : Observation × ℕ) → i < j → j < length firsts → (b : Bool) → first_eq (get_or firsts i d) (get_or firsts j d) ≡ b → first_eq (get_or firsts i d) (get_or firsts j d) ≡ false
    by i j d lt within false is = is
    by i j d lt within true is =
        let one = get_or firsts i d in
        let other = get_or firsts j d in
        let same : other.0 ≡ one.0 = sym (alike one.0 other.0 is) in
        let at_one = slice_get-get_or firsts i d (omega (arith, lt, within)) in
        let at_other : slice_get firsts j ≡ Some (one.0, other.1) = slice_get-get_or firsts j d within ∙ ap (λ m. Some (m, other.1)) same in
        let twice = r.once i j one.0 one.1 other.1 at_one at_other in
        absurd (omega (arith, twice, lt))

module _ (rounds : List ℕ) (whole : Bool) where
  told_apart : (m : Observation) (xs : List (Observation × ℕ)) → AllByRecursion (λ e. eq-value.it m e.0 ≡ false) xs → AllByRecursion (λ (o : Outcome). eq-value.it m o.observation ≡ false) (filter_map (outcome_of rounds whole) xs)
  told_apart m xs apart = recursion_from_All (λ (o : Outcome). eq-value.it m o.observation ≡ false) (filter_map (outcome_of rounds whole) xs) (λ k d lt.
      let o = get_or (filter_map (outcome_of rounds whole) xs) k d in
      let f = told_from (outcome_of rounds whole) xs k o (slice_get-get_or (filter_map (outcome_of rounds whole) xs) k d lt) in
      let e = f.1 in
      let told = told_is rounds whole e.0 e.1 o f.3 in
      let here = All-from_recursion (λ z. eq-value.it m z.0 ≡ false) xs apart f.0 e (slice_get_within xs f.0 e f.2) in
      let is = get_or_from_slice_get xs f.0 e e f.2 in
      ap (eq-value.it m) (told.observation ∙ sym (ap (λ z. z.0) is)) ∙ here)

  all_told_apart : (xs : List (Observation × ℕ)) → IsDistinct first_eq xs → IsDistinct told_eq (filter_map (outcome_of rounds whole) xs)
  all_told_apart [] apart = IsDistinct-from_apart told_eq [] (λ i j d lt within. absurd (omega (arith, within)))
  all_told_apart (x ∷ xs) apart = by (outcome_of rounds whole x) refl (all_told_apart xs (IsDistinct-tail first_eq x xs apart))
    where
      by : (o : Option Outcome) → outcome_of rounds whole x ≡ o → IsDistinct told_eq (filter_map (outcome_of rounds whole) xs) → IsDistinct told_eq (cons_option o (filter_map (outcome_of rounds whole) xs))
      by None is rest = rest
      by (Some o) is rest =
          let told = told_is rounds whole x.0 x.1 o is in
          let head = told_apart o.observation xs (subst (λ m. AllByRecursion (λ e. eq-value.it m e.0 ≡ false) xs) (sym told.observation) (IsDistinct-head first_eq x xs apart)) in
          IsDistinct-cons told_eq o (filter_map (outcome_of rounds whole) xs) head rest

  pub listed_once : (seen firsts : List (Observation × ℕ)) (outcomes : List Outcome) → AreFirsts seen firsts → IsPermutation (filter_map (outcome_of rounds whole) firsts) outcomes → IsListedOnce outcomes
  listed_once seen firsts outcomes r same = λ i j o p one other observations. elim (cases_lt i j) [
    | inl lt ↦ absurd (twice i j o p one other observations lt)
    | inr ge ↦ elim (cases_lt j i) [
      | inl lt ↦ absurd (twice j i p o other one (sym observations) lt)
      | inr le ↦ omega (arith, ge, le)
    ]
  ]
    where
      apart : IsDistinct told_eq outcomes
      apart = IsDistinct-IsPermutation told_eq (λ o p. laws-law.symm o.observation p.observation) (filter_map (outcome_of rounds whole) firsts) outcomes same (all_told_apart firsts (firsts_apart seen firsts r))

      twice : (i j : ℕ) (o p : Outcome) → slice_get outcomes i ≡ Some o → slice_get outcomes j ≡ Some p → o.observation ≡ p.observation → i < j → ⊥
      twice i j o p one other observations lt =
          let differ = apart_from_distinct told_eq outcomes i j o apart lt (slice_get_within outcomes j p other) in
          let is_o = get_or_from_slice_get outcomes i o o one in
          let is_p = get_or_from_slice_get outcomes j p o other in
          let same_eq : eq-value.it o.observation p.observation ≡ true = ap (eq-value.it o.observation) (sym observations) ∙ itself o.observation in
          let differ_eq : eq-value.it o.observation p.observation ≡ false = sym (ap (λ (z : Outcome). told_eq z (get_or outcomes j o)) is_o ∙ ap (λ (z : Outcome). told_eq o z) is_p) ∙ differ in
          cc (same_eq, differ_eq)
