-- What a code makes of the stages that answer a get_sync.
use Rattle.std.proofs.Common.{◌≡◌, inl, inr, Bool, true, false, ◌&&◌, List, [], ◌∷◌, Option, ℤ, refl}
use Rattle.pm_base.specs.declared.DevId.{DevId}
use Rattle.pm_model.specs.declared.event.Event.TheVariants as event
use Rattle.pm_model.specs.declared.event.Helper.{Helper}
use Rattle.pm_model.specs.declared.event.Helper.TheVariants as helper
use Rattle.pm_model.specs.declared.plan.Plan.{Plan}
use Rattle.pm_model.specs.declared.stage.Await.{Await}
use Rattle.pm_model.specs.declared.stage.Await.TheVariants as await
use Rattle.pm_model.specs.declared.stage.HelperStage.TheVariants as at
use Rattle.pm_model.specs.declared.stage.Purpose.TheVariants as purpose
use Rattle.pm_model.specs.declared.stage.Stage.{Stage}
use Rattle.pm_model.specs.declared.stage.Stage.TheVariants as stage
use Rattle.pm_model.specs.declared.stage.Then.{Then}
use Rattle.pm_model.specs.Counted.{is_same}
use Rattle.pm_model.specs.Handing.{take_code}
use Rattle.pm_model.specs.Promises.{got_well}
use Rattle.pm_model.specs.ResumeTable.{is_supplied}
use Rattle.pm_laws.specs.stacks.Shape.{Call, own, raises, call_of, returns_resume, May, Fits, Nested}
use Rattle.pm_laws.proofs.stacks.Tests.{front}
use Rattle.pm_laws.proofs.stacks.Zeros.{raised, lowered, helper_calls, zero_raised, zero_lowered, parents, suppliers, zero_calls}
use Rattle.pm_laws.specs.safe.Pends.{is_up}
use Rattle.pm_laws.specs.gets.Answered.{is_sync_resume, answers, is_answered}
use Rattle.pm_laws.proofs.gets.Passing.{Passes, silent, tells}

with_four : (a b : Bool) → a && b ≡ true → (a && true) && b ≡ true
with_four true b e = e
with_four false b e = cc

-- a call that ends with this code answers
abbrev pub ends_well : DevId → Call → ℤ → Bool
ends_well d k c = is_sync_resume d k && is_up c

abbrev pub tells_answer : DevId → Stage → Then → Bool
tells_answer d s next = tells (answers d) (ends_well d) s next

-- a get_sync returns the code of its own resume
returned : (plan : Plan) (d e : DevId) (c : ℤ) (k : Call) (h : Helper) → May plan (await.Return h e) k → got_well d (event.Ret h e c) ≡ true → is_sync_resume d k && is_up c ≡ true
returned plan d e c k helper.GetSync may good = let is : k ≡ raises e 4 purpose.Plain = may in rw is (with_four (is_same d e) (is_up c) good)
returned plan d e c k _ may good = cc

-- no get_sync returns 0 whatever its code
never_zero : {A : Type 0} (d e : DevId) (c : ℤ) (h : Helper) → returns_resume h ≡ false → got_well d (event.Ret h e c) ≡ true → A
never_zero d e c helper.GetSync apart good = cc
never_zero d e c _ apart good = cc

pub answers_pass : (plan : Plan) (d : DevId) (a : Await) (c : ℤ) (k : Call) → Fits plan (stage.Await a) → May plan a k → Passes (answers d) (ends_well d) a c k (take_code a c)
unfolding take_code
answers_pass plan d (await.Return h e) c k fits may = λ good. inr (returned plan d e c k h may good)
answers_pass plan d (await.ReturnZero h e) c k fits may = λ good. never_zero d e _ h fits good
answers_pass plan d (await.ResumeIdle r) c k fits may = λ good. inl (front _ _ good)
answers_pass plan d (await.ResumePut r kept) c k fits may = λ good. good
answers_pass plan d (await.ActiveSupplier e link) c k fits may = silent (answers d) (ends_well d) (await.ActiveSupplier e link) c k (is_supplied c) _ _ refl refl
answers_pass plan d _ c k fits may = λ good. cc

-- nothing awaits a helper's own work
pub own_awaited : (plan : Plan) (o : Option DevId) (a : Await) → May plan a (own o) → ⊥
own_awaited plan o (await.SuspendLinks d f) (l, s, is, e) = cc
own_awaited plan o (await.SuspendDeferred d f) e = cc
own_awaited plan o (await.SuspendParent d f) (is, e) = cc
own_awaited plan o (await.ResumeParent r) (is, e) = cc
own_awaited plan o (await.ResumeSupplier r l) (s, is, e) = cc
own_awaited plan o (await.ResumeIdle r) e = cc
own_awaited plan o (await.ResumeUnwind r c) (l, s, is, e) = cc
own_awaited plan o (await.ResumePut r c) (is, e) = cc
own_awaited plan o (await.Return h d) e = elim (helper_calls h d (own o) e) [ raised e ↦ cc | lowered is e ↦ cc ]
own_awaited plan o (await.ReturnZero h d) m = elim (zero_calls plan h d (own o) m) [
  | zero_raised e ↦ cc
  | zero_lowered odd e ↦ cc
  | parents p ↦ let e = p.1 in cc
  | suppliers p ↦ let e = p.3 in cc
]
own_awaited plan o (await.DisableResume d) e = cc
own_awaited plan o (await.BarrierResume d) e = cc
own_awaited plan o (await.ActiveSupplier d l) (s, is, e) = cc
own_awaited plan o (await.ActiveUnwind d c) (l, s, is, e) = cc
own_awaited plan o (await.SuppliersIdle d s) (l, is, e) = cc

own_alone : (plan : Plan) (d : DevId) (o : Option DevId) (rest : List Stage) → Nested plan (own o) rest → is_answered d rest ≡ false
own_alone plan d o [] n = refl
own_alone plan d o (stage.Await a ∷ rest) n = absurd (own_awaited plan o a n.0)
own_alone plan d o (s ∷ rest) n = elim n.0 [ ]

-- the stage after a helper's call line
abbrev pub is_start : Stage → Bool
is_start (stage.Helper (at.Start c)) = true
is_start _ = false

-- it stands alone, and answers nothing yet
pub start_alone : (plan : Plan) (d : DevId) (s : Stage) (rest : List Stage) → is_start s ≡ true → Nested plan (call_of s) rest → is_answered d (s ∷ rest) ≡ false
start_alone plan d (stage.Helper (at.Start c)) rest is n = own_alone plan d _ rest n
start_alone plan d _ rest is n = cc
