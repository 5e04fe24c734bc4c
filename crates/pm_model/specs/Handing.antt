-- Where a stage goes on after a call, and what takes the place of the top of a stack (this project's own, but for what
-- a supplier's answer means: device_link.rst).
use Rattle.std.specs.Prelude.{true, List, ◌∷◌, ◌++◌, Option, Some, None, ℤ, pos, if◌then◌else◌}
use Rattle.pm_base.specs.declared.codes.TheConstants.{EAGAIN}
use Rattle.pm_model.specs.declared.stage.Await.{Await}
use Rattle.pm_model.specs.declared.stage.Await.TheVariants as await
use Rattle.pm_model.specs.declared.stage.ControlStage.TheVariants as control
use Rattle.pm_model.specs.declared.stage.Handed.{Handed}
use Rattle.pm_model.specs.declared.stage.Handed.TheVariants as handed
use Rattle.pm_model.specs.declared.stage.HelperStage.TheVariants as at
use Rattle.pm_model.specs.declared.stage.ResumeStage.TheVariants as resume
use Rattle.pm_model.specs.declared.stage.Stage.{Stage}
use Rattle.pm_model.specs.declared.stage.Stage.TheVariants as stage
use Rattle.pm_model.specs.declared.stage.SuspendStage.TheVariants as suspend
use Rattle.pm_model.specs.declared.stage.Then.{Then}
use Rattle.pm_model.specs.ResumeTable.{is_supplied}

-- where a stage goes on after a call that answered the code c
unfoldable pub take_code : Await → ℤ → Handed
take_code (await.SuspendLinks d f) c = handed.Goes (stage.Suspend (suspend.Links d f))
take_code (await.SuspendDeferred d f) c = handed.Goes (stage.Suspend (suspend.Done d f EAGAIN))
take_code (await.SuspendParent d f) c = handed.Goes (stage.Suspend (suspend.Done d f (pos 0)))
take_code (await.ResumeParent r) c = handed.Goes (stage.Resume (resume.Verdict r true))
take_code (await.ResumeSupplier r link) c = handed.Goes (stage.Resume (resume.Supplied r c))
take_code (await.ResumeIdle r) c = handed.Goes (stage.Resume (resume.Done r (pos 0)))
take_code (await.ResumeUnwind r kept) c = handed.Goes (stage.Resume (resume.Unwind r kept))
take_code (await.ResumePut r kept) c = handed.Back kept
take_code (await.Return h d) c = handed.Goes (stage.Helper (at.Ret h d c))
take_code (await.ReturnZero h d) c = handed.Goes (stage.Helper (at.Ret h d (pos 0)))
take_code (await.DisableResume d) c = handed.Goes (stage.Control (control.DisablePut d))
take_code (await.BarrierResume d) c = handed.Goes (stage.Control (control.BarrierIdle d (pos 1)))
take_code (await.ActiveSupplier d link) c =
    if is_supplied c then handed.Goes (stage.Control (control.ActiveLinks d)) else handed.Goes (stage.Control (control.ActiveUnwind d c))
take_code (await.ActiveUnwind d kept) c = handed.Goes (stage.Control (control.ActiveUnwind d kept))
take_code (await.SuppliersIdle d supplier) c = handed.Goes (stage.Control (control.SuppliersIdle d (Some supplier)))

-- the stage to which a code comes that is handed down a stack, as the stack from there on, and the code as it comes; only
-- the put of [R7] lets its own code go further
abbrev pub arrival : List Stage → ℤ → List Stage × ℤ
arrival (stage.Await (await.ResumePut r kept) ∷ rest) c = arrival rest kept
arrival stack c = (stack, c)

-- no stage to which a code comes hands it further
abbrev pub gone_on : Handed → List Stage → List Stage
gone_on (handed.Goes s) rest = s ∷ rest
gone_on (handed.Back c) rest = rest

-- the stage on top takes the code where it awaits one; at an empty place the code is dropped
abbrev pub with_code : List Stage → ℤ → List Stage
with_code (stage.Await a ∷ rest) c = gone_on (take_code a c) rest
with_code stack c = stack

-- a code is handed down a stack, and the stage to which it comes takes it
abbrev pub after_code : List Stage → ℤ → List Stage
after_code stack c = let come = arrival stack c in with_code come.0 come.1

abbrev pub after_back : Option ℤ → List Stage → List Stage → List Stage
after_back None push rest = push ++ rest
after_back (Some c) push rest = after_code rest c

-- the stack once its top has given way
abbrev pub after_then : Then → List Stage → List Stage
after_then next rest = after_back next.back next.push rest
