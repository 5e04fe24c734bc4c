-- What is pending for a link, where a code is handed down a stack.
use Rattle.std.proofs.Common.{ℕ, pos, ◌≡◌, ◌+◌, ◌≤◌, Bool, true, false, not, ◌&&◌, ◌||◌, List, [], ◌∷◌, Option, Some, None, ℤ, nat_eq, if◌then◌else◌, ap, refl, sym, ◌∙◌, arith, inl, inr}
use Rattle.std.specs.List.{sum_by}
use Rattle.std.specs.Option.{option_map_or}
use Rattle.std.specs.Ordering.{int_eq}
use Rattle.std.proofs.lemmas.Bool.{false≢true}
use Rattle.std.proofs.lemmas.Bool.Decides.{eqb_tells}
use Rattle.std.proofs.lemmas.List.Sums.{sum_by-cons}
use Rattle.pm_base.specs.declared.DevId.{DevId}
use Rattle.pm_base.specs.declared.codes.TheConstants.{EACCES}
use Rattle.pm_model.specs.declared.plan.Plan.{Plan}
use Rattle.pm_model.specs.declared.stage.Await.{Await}
use Rattle.pm_model.specs.declared.stage.Await.TheVariants as await
use Rattle.pm_model.specs.declared.stage.ControlStage.TheVariants as control
use Rattle.pm_model.specs.declared.stage.Handed.{Handed}
use Rattle.pm_model.specs.declared.stage.Handed.TheVariants as handed
use Rattle.pm_model.specs.declared.stage.Stage.{Stage}
use Rattle.pm_model.specs.declared.stage.Stage.TheVariants as stage
use Rattle.pm_model.specs.Counted.{is_same}
use Rattle.pm_model.specs.Excuse.{awaits_supplier, is_denied}
use Rattle.pm_model.specs.Handing.{arrival, take_code, after_code}
use Rattle.pm_model.specs.ResumeTable.{is_supplied}
use Rattle.pm_model.specs.World.{top}
use Rattle.pm_model.proofs.Arrivals.{on_handed, after_await}
use Rattle.pm_laws.specs.counts.Sums.{one}
use Rattle.pm_laws.proofs.stacks.Tests.{same_self}
use Rattle.pm_laws.specs.safe.Needs.{gives_way}
use Rattle.pm_laws.specs.safe.Parts.{preparing, refused}
use Rattle.pm_laws.specs.safe.Pends.{asks, awaits, is_up, is_for, pends, is_bad_answer, falls_back, consumer}

-- below what was called for link q stands what awaits it, and so on down
abbrev pub Asked : Option ℕ → List Stage → Type 0
Asked q [] = q ≡ None
Asked q (stage.Await a ∷ rest) = (awaits a ≡ q) × Asked (asks (stage.Await a)) rest
Asked q (s ∷ rest) = ⊥

-- a test of whether a code comes to the resume of link l's supplier, and of the code as it comes
abbrev comes : (Bool → ℤ → Bool) → ℕ → List Stage → ℤ → Bool
comes test l stack c = let come = arrival stack c in test (option_map_or (awaits_supplier l) (top None come.0) false) come.1

abbrev comes_by : (Bool → ℤ → Bool) → ℕ → Await → ℤ → Handed → (ℤ → Bool) → Bool
comes_by test l a c (handed.Goes s) further = test (awaits_supplier l (stage.Await a)) c
comes_by test l a c (handed.Back k) further = further k

comes_await : (test : Bool → ℤ → Bool) (l : ℕ) (a : Await) (c : ℤ) (rest : List Stage)
    → comes test l (stage.Await a ∷ rest) c ≡ comes_by test l a c (take_code a c) (comes test l rest)
unfolding take_code
comes_await test l (await.ActiveSupplier d link) c rest = go (is_supplied c)
  where
    go : (b : Bool) → test (nat_eq l link) c
        ≡ comes_by test l (await.ActiveSupplier d link) c (if b then handed.Goes (stage.Control (control.ActiveLinks d)) else handed.Goes (stage.Control (control.ActiveUnwind d c))) (comes test l rest)
    go true = refl
    go false = refl
comes_await test l (await.ResumePut r kept) c rest = refl
comes_await test l a c rest = refl

-- a code that doesn't say that the supplier is up, and one that says that it is disabled
abbrev is_bad : Bool → ℤ → Bool
is_bad b c = not (is_up c) && b

abbrev is_denial : Bool → ℤ → Bool
is_denial b c = b && int_eq c EACCES

-- how pending changes where one code comes to one stage: where it goes on, a bad answer to link l is no more pending;
-- where it hands a code on, what it weighed goes to that code
abbrev Hands : ℕ → Await → ℤ → Handed → Type 0
Hands l a c (handed.Goes s) = pends l s + one (is_bad (awaits_supplier l (stage.Await a)) c) ≡ pends l (stage.Await a) + one (not (is_up c) && is_for l (awaits a))
Hands l a c (handed.Back k) = (pends l (stage.Await a) ≡ one (not (is_up k) && is_for l (asks (stage.Await a)))) × (is_for l (awaits a) ≡ false)

either_hands : (l : ℕ) (a : Await) (c : ℤ) (b : Bool) (x y : Handed) → Hands l a c x → Hands l a c y → Hands l a c (if b then x else y)
either_hands l a c true x y p q = p
either_hands l a c false x y p q = q

nothing_for : (b : Bool) → b && false ≡ false
nothing_for true = refl
nothing_for false = refl

hands : (l : ℕ) (a : Await) (c : ℤ) → Hands l a c (take_code a c)
unfolding take_code
hands l (await.ActiveSupplier d link) c = either_hands l (await.ActiveSupplier d link) c (is_supplied c) _ _ refl refl
hands l (await.ResumePut r kept) c = (refl, refl)
hands l _ c = refl

-- the sum of what is pending, where a code is handed down
abbrev Falls : ℕ → Option ℕ → ℤ → List Stage → ℕ → Bool → Type 0
Falls l q c after before bad = sum_by (pends l) after + one bad ≡ before + one (not (is_up c) && is_for l q)

falls_handed : (l : ℕ) (a : Await) (c : ℤ) (h : Handed) (rest : List Stage) → Hands l a c h
    → ((k : ℤ) → Falls l (asks (stage.Await a)) k (after_code rest k) (sum_by (pends l) rest) (comes is_bad l rest k))
    → Falls l (awaits a) c (on_handed h rest (after_code rest)) (sum_by (pends l) (stage.Await a ∷ rest)) (comes_by is_bad l a c h (comes is_bad l rest))
falls_handed l a c (handed.Goes s) rest is below = omega (arith, is, sum_by-cons (pends l) s rest, sum_by-cons (pends l) (stage.Await a) rest)
falls_handed l a c (handed.Back k) rest is below =
    rw (is.1, nothing_for (not (is_up c))) (omega (arith, is.0, below k, sum_by-cons (pends l) (stage.Await a) rest))

pub falls : (l : ℕ) (q : Option ℕ) (rest : List Stage) (c : ℤ) → Asked q rest
    → sum_by (pends l) (after_code rest c) + one (is_bad_answer l rest c) ≡ sum_by (pends l) rest + one (not (is_up c) && is_for l q)
falls l q [] c h = rw (h, nothing_for (not (is_up c))) refl
falls l q (stage.Await a ∷ rest) c h =
    rw (after_await a c rest, comes_await is_bad l a c rest, ← h.0)
    (falls_handed l a c (take_code a c) rest (hands l a c) (λ k. falls l (asks (stage.Await a)) rest k h.1))
falls l q (s ∷ rest) c h = elim h [ ]

-- a stage that awaits a link is one of the link's consumer
abbrev pub IsOfConsumer : Plan → Stage → Type 0
IsOfConsumer plan (stage.Await (await.ResumeSupplier r link)) = consumer plan link ≡ Some r.dev
IsOfConsumer plan (stage.Await (await.ActiveSupplier d link)) = consumer plan link ≡ Some d
IsOfConsumer plan _ = Unit {0}

abbrev pub Each : (Stage → Type 0) → List Stage → Type 0
Each P [] = Unit {0}
Each P (s ∷ rest) = P s × Each P rest

-- a bad answer is a denial, or its consumer gives back what it took
abbrev Ends : DevId → Bool → Bool → List Stage → Type 0
Ends d bad denied after = one bad ≤ one denied + sum_by (falls_back d) after

abbrev EndsBy : ℕ → ℕ → DevId → Handed → Type 0
EndsBy bad denied d (handed.Goes s) = bad ≤ denied + falls_back d s
EndsBy bad denied d (handed.Back k) = Unit {0}

abbrev EndsHere : ℕ → DevId → Await → ℤ → Handed → Type 0
EndsHere l d a c h = EndsBy (one (is_bad (awaits_supplier l (stage.Await a)) c)) (one (is_denial (awaits_supplier l (stage.Await a)) c)) d h

bad_code : (zero one_ denied of_link of_device : Bool) → (of_link ≡ true → of_device ≡ true)
    → one (not (zero || one_) && of_link) ≤ one (of_link && denied) + one (of_device && gives_way (if zero || one_ || denied then preparing else refused))
bad_code true b c m s e = omega arith
bad_code false true c m s e = omega arith
bad_code false false c false s e = omega arith
bad_code false false true true s e = omega arith
bad_code false false false true s e = rw (e refl) (omega arith)

same_consumer : (plan : Plan) (l link : ℕ) (d e : DevId) → consumer plan link ≡ Some e → consumer plan l ≡ Some d → nat_eq l link ≡ true → is_same d e ≡ true
same_consumer plan l link d e of_link of_l same =
    elim (eqb_tells l link) [
      | inl q ↦ let one : Some d ≡ Some e = sym of_l ∙ ap (consumer plan) q.1 ∙ of_link in let it : d ≡ e = cc in rw it (same_self e.0)
      | inr q ↦ absurd (false≢true (sym q.0 ∙ same))
    ]

ends_active : (d e : DevId) (c : ℤ) (zero one_ denied of_link : Bool) → (of_link ≡ true → is_same d e ≡ true)
    → EndsBy (one (not (zero || one_) && of_link)) (one (of_link && denied)) d
    (if zero || one_ || denied then handed.Goes (stage.Control (control.ActiveLinks e)) else handed.Goes (stage.Control (control.ActiveUnwind e c)))
ends_active d e c true b n m s = omega arith
ends_active d e c false true n m s = omega arith
ends_active d e c false false n false s = ends_both n
  where
    ends_both : (b : Bool) → EndsBy 0 0 d (if b then handed.Goes (stage.Control (control.ActiveLinks e)) else handed.Goes (stage.Control (control.ActiveUnwind e c)))
    ends_both true = omega arith
    ends_both false = omega arith
ends_active d e c false false true true s = omega arith
ends_active d e c false false false true s = rw (s refl) (omega arith)

ends_here : (plan : Plan) (l : ℕ) (d : DevId) (a : Await) (c : ℤ) → IsOfConsumer plan (stage.Await a) → consumer plan l ≡ Some d → EndsHere l d a c (take_code a c)
unfolding take_code
ends_here plan l d (await.ResumeSupplier r link) c is of_l =
    bad_code (int_eq c (pos 0)) (int_eq c (pos 1)) (int_eq c EACCES) (nat_eq l link) (is_same d r.dev) (same_consumer plan l link d r.dev is of_l)
ends_here plan l d (await.ActiveSupplier e link) c is of_l =
    ends_active d e c (int_eq c (pos 0)) (int_eq c (pos 1)) (int_eq c EACCES) (nat_eq l link) (same_consumer plan l link d e is of_l)
ends_here plan l d (await.ResumePut r kept) c is of_l = tt
ends_here plan l d _ c is of_l = rw (nothing_for (not (is_up c))) (omega arith)

ends_handed : (l : ℕ) (d : DevId) (a : Await) (c : ℤ) (h : Handed) (rest : List Stage) → EndsHere l d a c h
    → ((k : ℤ) → Ends d (comes is_bad l rest k) (comes is_denial l rest k) (after_code rest k))
    → Ends d (comes_by is_bad l a c h (comes is_bad l rest)) (comes_by is_denial l a c h (comes is_denial l rest)) (on_handed h rest (after_code rest))
ends_handed l d a c (handed.Goes s) rest is below = omega (arith, is, sum_by-cons (falls_back d) s rest)
ends_handed l d a c (handed.Back k) rest is below = below k

pub ends : (plan : Plan) (l : ℕ) (d : DevId) (rest : List Stage) (c : ℤ) → Each (IsOfConsumer plan) rest → consumer plan l ≡ Some d
    → one (is_bad_answer l rest c) ≤ one (is_denied l rest c) + sum_by (falls_back d) (after_code rest c)
ends plan l d [] c each of_l = rw (nothing_for (not (is_up c))) (omega arith)
ends plan l d (stage.Await a ∷ rest) c each of_l =
    rw (after_await a c rest, comes_await is_bad l a c rest, comes_await is_denial l a c rest)
    (ends_handed l d a c (take_code a c) rest (ends_here plan l d a c each.0 of_l) (λ k. ends plan l d rest k each.1 of_l))
ends plan l d (s ∷ rest) c each of_l = rw (nothing_for (not (is_up c))) (omega arith)
