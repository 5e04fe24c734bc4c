-- How the parts of all stages add up where an actor's stage gives way.
use Rattle.std.proofs.Common.{ℕ, ◌≡◌, ◌+◌, ◌≤◌, Bool, true, false, ◌&&◌, List, [], ◌∷◌, Option, Some, None, ℤ, if◌then◌else◌, ap, refl, arith}
use Rattle.std.specs.List.{sum_by}
use Rattle.std.proofs.lemmas.List.Sums.{sum_by-cons, sum_by-append}
use Rattle.pm_base.specs.declared.DevId.{DevId}
use Rattle.pm_model.specs.declared.stage.Await.{Await}
use Rattle.pm_model.specs.declared.stage.Await.TheVariants as await
use Rattle.pm_model.specs.declared.stage.Handed.{Handed}
use Rattle.pm_model.specs.declared.stage.Handed.TheVariants as handed
use Rattle.pm_model.specs.declared.stage.HelperStage.TheVariants as at
use Rattle.pm_model.specs.declared.stage.Stage.{Stage}
use Rattle.pm_model.specs.declared.stage.Stage.TheVariants as stage
use Rattle.pm_model.specs.declared.stage.Then.{Then}
use Rattle.pm_model.specs.Counted.{is_same}
use Rattle.pm_model.specs.Handing.{take_code, after_code, after_back, after_then}
use Rattle.pm_model.specs.ResumeTable.{is_supplied}
use Rattle.pm_model.proofs.Arrivals.{on_handed, after_await}
use Rattle.pm_laws.specs.counts.Sums.{one, weigh}
use Rattle.pm_laws.proofs.counts.Tally.{weigh_is}
use Rattle.pm_laws.proofs.counts.Places.{shown, shown_of, IsHanded, IsWeight}
use Rattle.pm_laws.proofs.stacks.Standing.{IsStart}
use Rattle.pm_laws.specs.safe.Parts.{Phase, preparing, refused, part, counts, at_part, Falls, Stays}

-- a stage that starts has no part
pub start_light : (test : Phase → Bool) (d : DevId) (s : Stage) → IsStart s → at_part test d s ≡ 0
start_light test d (stage.Helper (at.Call c)) is = refl
start_light test d (stage.Helper (at.Work e)) is = refl
start_light test d (stage.Helper (at.Timer e)) is = refl
start_light test d _ is = elim is [ ]

-- the part is the same where a stage awaits a call and where it goes on, for a test that doesn't ask whether a supplier
-- is up
either_handed : (f : Stage → ℕ) (a : Await) (b : Bool) (x y : Handed) → IsHanded f a x → IsHanded f a y → IsHanded f a (if b then x else y)
either_handed f a true x y p q = p
either_handed f a false x y p q = q

pub parts_weigh : (test : Phase → Bool) (d : DevId) → Stays test → IsWeight (at_part test d)
unfolding take_code
parts_weigh test d stays = record { call = λ _. refl; work = λ _. refl; timer = λ _. refl; handed = go }
  where
    supplied : (e : DevId) (b : Bool) → counts test d (part e (if b then preparing else refused)) ≡ counts test d (part e preparing)
    supplied e true = refl
    supplied e false = ap (λ x. one (is_same d e && x)) stays.refuses

    go : (a : Await) (c : ℤ) → IsHanded (at_part test d) a (take_code a c)
    go (await.ResumeSupplier r link) c = supplied r.dev (is_supplied c)
    go (await.ActiveSupplier e link) c = either_handed (at_part test d) (await.ActiveSupplier e link) (is_supplied c) _ _ refl (ap (λ x. one (is_same d e && x)) stays.unsets)
    go _ c = refl

-- or it may fall
abbrev MayFall : (Stage → ℕ) → Await → Handed → Type 0
MayFall f a (handed.Goes s) = f s ≤ f (stage.Await a)
MayFall f a (handed.Back c) = Unit {0}

either_falls : (f : Stage → ℕ) (a : Await) (b : Bool) (x y : Handed) → MayFall f a x → MayFall f a y → MayFall f a (if b then x else y)
either_falls f a true x y p q = p
either_falls f a false x y p q = q

both_less : (same x y : Bool) → one x ≤ one y → one (same && x) ≤ one (same && y)
both_less true x y le = le
both_less false x y le = omega arith

parts_fall : (test : Phase → Bool) (d : DevId) → Falls test → (a : Await) (c : ℤ) → MayFall (at_part test d) a (take_code a c)
unfolding take_code
parts_fall test d falls (await.ResumeSupplier r link) c = supplied (is_supplied c)
  where
    supplied : (b : Bool) → counts test d (part r.dev (if b then preparing else refused)) ≤ counts test d (part r.dev preparing)
    supplied true = omega arith
    supplied false = both_less (is_same d r.dev) _ _ falls.refuses
parts_fall test d falls (await.ActiveSupplier e link) c =
    either_falls (at_part test d) (await.ActiveSupplier e link) (is_supplied c) _ _ (omega arith) (both_less (is_same d e) _ _ falls.unsets)
parts_fall test d falls (await.ResumePut r kept) c = tt
parts_fall test d falls _ c = omega arith

handed_falls : (f : Stage → ℕ) (a : Await) (h : Handed) (rest : List Stage) (further : ℤ → List Stage) → MayFall f a h
    → ((c : ℤ) → sum_by f (further c) ≤ sum_by f rest) → sum_by f (on_handed h rest further) ≤ sum_by f (stage.Await a ∷ rest)
handed_falls f a (handed.Goes s) rest further is below = omega (arith, is, sum_by-cons f s rest, sum_by-cons f (stage.Await a) rest)
handed_falls f a (handed.Back c) rest further is below = omega (arith, below c, sum_by-cons f (stage.Await a) rest)

code_falls : (f : Stage → ℕ) → ((a : Await) (c : ℤ) → MayFall f a (take_code a c)) → (rest : List Stage) (c : ℤ) → sum_by f (after_code rest c) ≤ sum_by f rest
code_falls f is [] c = omega arith
code_falls f is (stage.Await a ∷ rest) c =
    let lands : sum_by f (after_code (stage.Await a ∷ rest) c) ≡ sum_by f (on_handed (take_code a c) rest (after_code rest)) = ap (sum_by f) (after_await a c rest) in
    let less = handed_falls f a (take_code a c) rest (after_code rest) (is a c) (code_falls f is rest) in omega arith
code_falls f is (s ∷ rest) c = omega arith

pub then_falls : (test : Phase → Bool) (d : DevId) → Falls test → (next : Then) (rest : List Stage)
    → sum_by (at_part test d) (after_then next rest) ≤ weigh (at_part test d) (shown next) + sum_by (at_part test d) rest
then_falls test d falls next rest = go next.back next.push
  where
    f : Stage → ℕ
    f = at_part test d

    go : (back : Option ℤ) (push : List Stage) → sum_by f (after_back back push rest) ≤ weigh f (shown_of back push) + sum_by f rest
    go None push = omega (arith, sum_by-append f push rest, weigh_is f push)
    go (Some c) push = omega (arith, code_falls f (parts_fall test d falls) rest c)
