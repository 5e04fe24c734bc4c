-- What a row of a get_sync's call has to do with the resume callbacks of devices.
use Rattle.std.proofs.Common.{ℕ, ◌≡◌, ◌⊎◌, Bool, true, false, not, ◌&&◌, List, [], ◌∷◌, Option, Some, None, ℤ, pos, refl}
use Rattle.std.specs.Ordering.{int_eq}
use Rattle.pm_base.specs.declared.DevId.{DevId}
use Rattle.pm_base.specs.declared.Status.{Status}
use Rattle.pm_model.specs.declared.event.Event.{Event}
use Rattle.pm_model.specs.declared.plan.Plan.{Plan}
use Rattle.pm_model.specs.declared.stage.Await.TheVariants as await
use Rattle.pm_model.specs.declared.stage.Change.{Change}
use Rattle.pm_model.specs.declared.stage.HelperStage.TheVariants as at
use Rattle.pm_model.specs.declared.stage.ResumeStage.TheVariants as resume
use Rattle.pm_model.specs.declared.stage.Stage.{Stage}
use Rattle.pm_model.specs.declared.stage.Stage.TheVariants as stage
use Rattle.pm_model.specs.declared.stage.Then.{Then}
use Rattle.pm_model.specs.Counted.{is_same, says_error, says_held, says_status}
use Rattle.pm_model.specs.Derived.{has_error, is_active, is_active_status}
use Rattle.pm_model.specs.Handing.{after_then}
use Rattle.pm_model.specs.PlanRows.{no_callbacks}
use Rattle.pm_model.specs.Row.{writes}
use Rattle.pm_model.specs.Views.{Views}
use Rattle.pm_laws.specs.counts.Owners.{owns_resume}
use Rattle.pm_laws.specs.stacks.Shape.{Call, IsLink}
use Rattle.pm_laws.proofs.stacks.Obeying.{Duty, Obeys}
use Rattle.pm_laws.proofs.safe.Steps.{differ}
use Rattle.pm_laws.specs.gets.Answered.{is_get_sync}
use Rattle.pm_laws.proofs.gets.Passing.{tells}
use Rattle.pm_laws.specs.gets.Alone.{begins_resume, is_return}

-- R2, R3 and R4 of x, also where R3's call is open
abbrev pub gathers : DevId → Stage → Bool
gathers x (stage.Resume (resume.Links r)) = is_same x r.dev
gathers x (stage.Resume (resume.Supplied r c)) = is_same x r.dev
gathers x (stage.Resume (resume.Callback r)) = is_same x r.dev
gathers x (stage.Await (await.ResumeSupplier r link)) = is_same x r.dev
gathers x _ = false

-- R4b and R4c of x
abbrev pub calls_back : DevId → Stage → Bool
calls_back x (stage.Resume (resume.Running r since)) = is_same x r.dev
calls_back x (stage.Resume (resume.Resumed r)) = is_same x r.dev
calls_back x _ = false

-- a link whose supplier's resume the stage awaits isn't held
abbrev pub lacks : (ℕ → Bool) → Stage → Bool
lacks held (stage.Await (await.ResumeSupplier r link)) = not (held link)
lacks held _ = false

-- the stages of a get_sync of d itself
abbrev pub is_get_of : DevId → Stage → Bool
is_get_of d (stage.Helper (at.Start c)) = is_get_sync c.helper && is_same d c.dev
is_get_of d (stage.Helper (at.Ret h e c)) = is_get_sync h && is_same d e
is_get_of d (stage.Await (await.Return h e)) = is_get_sync h && is_same d e
is_get_of d _ = false

-- such a stage is the last of the stack
abbrev pub stands_on : DevId → List Stage → Bool
stands_on d [] = false
stands_on d (s ∷ []) = is_get_of d s
stands_on d (s ∷ t ∷ rest) = stands_on d (t ∷ rest)

abbrev pub on_top : (Stage → Bool) → List Stage → Bool
on_top test [] = false
on_top test (s ∷ rest) = test s

-- the stage gives way to one that passes the test
abbrev pub goes_to_of : (Stage → Bool) → Option ℤ → List Stage → Bool
goes_to_of test None push = on_top test push
goes_to_of test (Some c) push = false

abbrev pub goes_to : (Stage → Bool) → Then → Bool
goes_to test next = goes_to_of test next.back next.push

abbrev pub no_end : Call → ℤ → Bool
no_end k c = false

abbrev pub is_off : Option Status → Bool
is_off (Some s) = not (is_active_status s)
is_off None = false

abbrev pub is_clear : Option ℤ → Bool
is_clear (Some c) = int_eq c (pos 0)
is_clear None = false

abbrev pub fails : Option ℤ → Bool
fails (Some c) = not (int_eq c (pos 0))
fails None = false

abbrev pub is_on : Option Status → Bool
is_on (Some s) = is_active_status s
is_on None = false

-- a resume callback begins at R2, R3 or R4, and R4b follows; what comes to R2 is neither Active nor has an error; R4b and
-- R4c are left for one another, for Active, or with an error; an Active device with callbacks stays Active; no error is
-- cleared; who gives back a link owns the resume of its consumer; a link whose supplier's resume is awaited is taken; and
-- the call goes on until it returns
pub record Careful (plan : Plan) (v : Views) (s : Stage) (e : Event) (next : Then) : Type 0 where
  pub begins : (x : DevId) → begins_resume x e ≡ true → (gathers x s ≡ true) × (goes_to (calls_back x) next ≡ true) × (tells (gathers x) no_end s next ≡ false)
  pub comes : (x : DevId) → tells (gathers x) no_end s next ≡ true → (gathers x s ≡ true) ⊎ ((is_active v x ≡ false) × (has_error v x ≡ false) × (calls_back x s ≡ false))
  pub leaves : (x : DevId) → calls_back x s ≡ true → (is_on (says_status x e) ≡ true) ⊎ ((fails (says_error x e) ≡ true) ⊎ (goes_to (calls_back x) next ≡ true))
  pub stays : (x : DevId) → is_active v x ≡ true → no_callbacks plan x ≡ false → is_off (says_status x e) ≡ false
  pub clears : (x : DevId) → is_clear (says_error x e) ≡ false
  pub frees : (c t : DevId) → says_held c t e ≡ Some false → owns_resume c s ≡ 1
  pub takes : (held : ℕ → Bool) → ((l : ℕ) (c t : DevId) → IsLink plan l c t → says_held c t e ≡ Some true → held l ≡ true) → tells (lacks held) no_end s next ≡ false
  pub roots : (d : DevId) → is_get_of d s ≡ true → is_return e ≡ false → stands_on d (after_then next []) ≡ true

abbrev pub Carefully : Plan → Views → Stage → Duty
Carefully plan v s e change next = Careful plan v s e next

none_some : {A P : Type 0} (o : Option A) (x : A) → o ≡ None → o ≡ Some x → P
none_some None x n e = cc
none_some (Some y) x n e = cc

pub quiet_off : (o : Option Status) → o ≡ None → is_off o ≡ false
quiet_off None e = refl
quiet_off (Some s) e = cc

pub quiet_clear : (o : Option ℤ) → o ≡ None → is_clear o ≡ false
quiet_clear None e = refl
quiet_clear (Some s) e = cc

-- the row says nothing of a status, an error or a link, and its stages are none of those
pub quiet : {plan : Plan} {v : Views} {s : Stage} {e : Event} {change : Change} {next : Then}
    → ((x : DevId) → begins_resume x e ≡ false) → ((x : DevId) → tells (gathers x) no_end s next ≡ false) → ((x : DevId) → calls_back x s ≡ false)
    → ((x : DevId) → says_status x e ≡ None) → ((x : DevId) → says_error x e ≡ None) → ((c t : DevId) → says_held c t e ≡ None)
    → ((held : ℕ → Bool) → tells (lacks held) no_end s next ≡ false) → ((d : DevId) → is_get_of d s ≡ false) → Obeys (Carefully plan v s) (writes e change next)
quiet begins comes leaves stays clears frees takes roots = record {
  paid = record {
    begins = λ x t. differ t (begins x);
    comes = λ x t. differ t (comes x);
    leaves = λ x t. differ t (leaves x);
    stays = λ x a c. quiet_off _ (stays x);
    clears = λ x. quiet_clear _ (clears x);
    frees = λ c t is. none_some _ false (frees c t) is;
    takes = λ held is. takes held;
    roots = λ d t. differ t (roots d);
  };
}
