-- The moments that are noted.
use Rattle.std.proofs.Common.{ℕ, zero, suc, ◌≡◌, ◌<◌, ◌+◌, inl, inr, List, [], ◌∷◌, ◌++◌, Some, length, get_or, slice_get, sym, refl, subst, ap, ◌∙◌, arith}
use Rattle.std.proofs.lemmas.List.Elements.{Contains-append_cases, Contains-append_left, Contains-append_right}
use Rattle.std.proofs.lemmas.Option.{get_or_from_slice_get, slice_get-get_or, slice_get_within}
use Rattle.std.specs.List.{Contains, enumerate_from}
use Rattle.pm_model.specs.declared.plan.Plan.{Plan}
use Rattle.pm_explore.specs.declared.schedule.Pace.TheVariants.{Late}
use Rattle.pm_explore.specs.schedule.Snapshots.{Snapshot, moments}
use Rattle.pm_explore.specs.search.Exact.{HasExactly, IsAmong}
use Rattle.pm_explore.specs.successors.Lines.{IsMoment}
use Rattle.pm_explore.specs.successors.Moments.{AreWith}

only : (t n : ℕ) → Contains (n ∷ []) t → n ≡ t
only t n there = go there.0 there.1 there.2
  where
    go : (k : ℕ) → k < 1 → get_or (n ∷ []) k t ≡ t → n ≡ t
    go zero lt is = is
    go (suc k) lt is = absurd (omega (arith, lt))

itself : (n : ℕ) → Contains (n ∷ []) n
itself n = (0, omega arith, refl)

-- some and others
pub with_both : (from : ℕ) (old xs between ys new : List ℕ) → AreWith from old xs between → AreWith from between ys new → AreWith from old (xs ++ ys) new
with_both from old xs between ys new one two = record {
  sound = λ t there. elim (two.sound t there) [
    | inr added ↦ inr (added.0, Contains-append_right xs ys t added.1)
    | inl was ↦ elim (one.sound t was) [ inl first ↦ inl first | inr added ↦ inr (added.0, Contains-append_left xs ys t added.1) ]
  ];
  keeps = λ t there. two.keeps t (one.keeps t there);
  adds = λ t lt there. elim (Contains-append_cases xs ys t there) [ inl l ↦ two.keeps t (one.adds t lt l) | inr r ↦ two.adds t lt r ];
}

place : (xs : List ℕ) (t : ℕ) → Contains xs t → IsAmong xs (length xs) t
place xs t has = record { place = has.0; below = has.1; there = slice_get-get_or xs has.0 t has.1 ∙ ap Some has.2 }

has_at : (xs : List ℕ) (i t : ℕ) → slice_get xs i ≡ Some t → Contains xs t
has_at xs i t there = (i, slice_get_within xs i t there, get_or_from_slice_get xs i t t there)

-- all moments of a late pace
pub late_exact : (plan : Plan) (s : Snapshot) (old new : List ℕ) → old ≡ s.time ∷ [] → AreWith s.time old (moments plan s) new → HasExactly (IsMoment Late plan s) new
late_exact plan s old new first are = record {
  sound = λ i t there. elim (are.sound t (has_at new i t there)) [
    | inl now ↦ inl (sym (only t s.time (subst (λ l. Contains l t) first now)))
    | inr later ↦ inr later
  ];
  complete = λ t is. place new t (elim is [
    | inl now ↦ are.keeps t (subst (λ l. Contains l t) (sym first) (subst (Contains (s.time ∷ [])) (sym now) (itself s.time)))
    | inr later ↦ are.adds t later.0 later.1
  ]);
}

numbered : {A : Type 0} (n : ℕ) (xs : List A) (i : ℕ) (d : ℕ × A) → i < length xs → (get_or (enumerate_from n xs) i d).0 ≡ n + i
numbered n [] i d lt = absurd (omega (arith, lt))
numbered n (x ∷ xs) zero d lt = omega arith
numbered n (x ∷ xs) (suc i) d lt = let rest = numbered (n + 1) xs i d (omega (arith, lt)) in omega (arith, rest)

-- the number of a row
pub row_number : {A : Type 0} (xs : List A) (i : ℕ) (d : ℕ × A) → i < length xs → (get_or (enumerate_from 0 xs) i d).0 ≡ i
row_number xs i d lt = let is = numbered 0 xs i d lt in omega (arith, is)
