-- What the open stages are while no line has disturbed: no callback has failed, nobody disables, and no status was forced
-- (this project's own).
use Rattle.std.specs.Prelude.{ℕ, Bool, true, false, not, ◌&&◌, ℤ, nat_eq}
use Rattle.pm_base.specs.declared.DevId.{DevId}
use Rattle.pm_model.specs.declared.event.Helper.{Helper}
use Rattle.pm_model.specs.declared.event.Helper.TheVariants as helper
use Rattle.pm_model.specs.declared.plan.Plan.{Plan}
use Rattle.pm_model.specs.declared.stage.Await.{Await}
use Rattle.pm_model.specs.declared.stage.Await.TheVariants as await
use Rattle.pm_model.specs.declared.stage.ControlStage.TheVariants as control
use Rattle.pm_model.specs.declared.stage.HelperStage.TheVariants as at
use Rattle.pm_model.specs.declared.stage.Purpose.{Purpose}
use Rattle.pm_model.specs.declared.stage.Purpose.TheVariants as purpose
use Rattle.pm_model.specs.declared.stage.ResumeCall.{ResumeCall}
use Rattle.pm_model.specs.declared.stage.ResumeStage.{ResumeStage}
use Rattle.pm_model.specs.declared.stage.ResumeStage.TheVariants as resume
use Rattle.pm_model.specs.declared.stage.Stage.{Stage}
use Rattle.pm_model.specs.declared.stage.Stage.TheVariants as stage
use Rattle.pm_model.specs.Counted.{is_same}
use Rattle.pm_model.specs.PlanRows.{has_parent, parent_of}
use Rattle.pm_model.specs.Promises.{implies}
use Rattle.pm_model.specs.ResumeTable.{is_supplied}
use Rattle.pm_laws.specs.stacks.Shape.{Call, raises, resume_call}
use Rattle.pm_laws.specs.safe.Pends.{is_up}
use Rattle.pm_laws.specs.gets.Answered.{is_get_sync}

abbrev pub is_child : Purpose → Bool
is_child purpose.Child = true
is_child _ = false

abbrev pub is_disable : Helper → Bool
is_disable helper.Disable = true
is_disable _ = false

-- the flags of a resume that was called for a child, or for a link
abbrev pub flags_fit : Purpose → ℕ → Bool
flags_fit purpose.Plain f = true
flags_fit purpose.Child f = nat_eq f 0
flags_fit (purpose.Link l) f = nat_eq f 4

-- the code of a resume of d: a parent comes up, a supplier too unless it is disabled, and so does x for a get_sync, where
-- it was enabled at the call
abbrev pub code_fits : DevId → Bool → Purpose → DevId → ℕ → ℤ → Bool
code_fits x enabled purpose.Plain d f c = implies (nat_eq f 4 && is_same x d && enabled) (is_up c)
code_fits x enabled purpose.Child d f c = is_up c
code_fits x enabled (purpose.Link l) d f c = is_supplied c

abbrev pub call_fits : DevId → Bool → Call → ℤ → Bool
call_fits x enabled (raises d f p) c = code_fits x enabled p d f c
call_fits x enabled _ c = true

-- what has tried its parent's resume holds a count on the parent; a supplier is up or disabled; R8 and R9 aren't open
abbrev pub resume_fits : Plan → DevId → Bool → ResumeStage → Bool
resume_fits plan x enabled (resume.Verdict r tried) = implies tried (r.held && has_parent plan r.dev)
resume_fits plan x enabled (resume.Waiting r tried) = implies tried (r.held && has_parent plan r.dev)
resume_fits plan x enabled (resume.Supplied r c) = is_supplied c
resume_fits plan x enabled (resume.Done r c) = code_fits x enabled r.purpose r.dev r.flags c
resume_fits plan x enabled (resume.Parent r c) = code_fits x enabled r.purpose r.dev r.flags c
resume_fits plan x enabled (resume.Domain r c) = false
resume_fits plan x enabled (resume.Unwind r c) = false
resume_fits plan x enabled _ = true

abbrev pub await_fits : DevId → Bool → Await → Bool
await_fits x enabled (await.ResumeParent r) = flags_fit r.purpose r.flags
await_fits x enabled (await.ResumeSupplier r link) = flags_fit r.purpose r.flags
await_fits x enabled (await.ResumeIdle r) = flags_fit r.purpose r.flags
await_fits x enabled (await.ResumeUnwind r c) = false
await_fits x enabled (await.ResumePut r c) = flags_fit r.purpose r.flags && code_fits x enabled r.purpose r.dev r.flags c
await_fits x enabled (await.DisableResume d) = false
await_fits x enabled _ = true

abbrev pub call_flags_fit : ResumeCall → Bool
call_flags_fit r = flags_fit r.purpose r.flags

abbrev pub fits : Plan → DevId → Bool → Stage → Bool
fits plan x enabled (stage.Resume s) = call_flags_fit (resume_call s) && resume_fits plan x enabled s
fits plan x enabled (stage.Await a) = await_fits x enabled a
fits plan x enabled (stage.Helper (at.Ret h d c)) = implies (is_get_sync h && is_same x d && enabled) (is_up c)
fits plan x enabled (stage.Control (control.Start c)) = not (is_disable c.helper)
fits plan x enabled (stage.Control (control.DisablePut d)) = false
fits plan x enabled (stage.Control (control.Disable d)) = false
fits plan x enabled (stage.Control (control.Disabled d)) = false
fits plan x enabled s = true

abbrev pub is_bad : Plan → DevId → Bool → Stage → Bool
is_bad plan x enabled s = not (fits plan x enabled s)

abbrev pub ends_badly : DevId → Bool → Call → ℤ → Bool
ends_badly x enabled k c = not (call_fits x enabled k c)

-- this stage needs d Active: its resume has tried d, the parent; or it is the resume of d for a child, and is done
abbrev pub needs_up : Plan → DevId → Stage → Bool
needs_up plan d (stage.Resume (resume.Verdict r tried)) = tried && is_same d (parent_of plan r.dev)
needs_up plan d (stage.Resume (resume.Waiting r tried)) = tried && is_same d (parent_of plan r.dev)
needs_up plan d (stage.Resume (resume.Idle r)) = is_child r.purpose && is_same d r.dev
needs_up plan d (stage.Resume (resume.Done r c)) = is_child r.purpose && is_same d r.dev
needs_up plan d (stage.Resume (resume.Parent r c)) = is_child r.purpose && is_same d r.dev
needs_up plan d (stage.Await (await.ResumeIdle r)) = is_child r.purpose && is_same d r.dev
needs_up plan d (stage.Await (await.ResumePut r c)) = is_child r.purpose && is_same d r.dev
needs_up plan d _ = false

abbrev pub brings_up : DevId → Call → ℤ → Bool
brings_up d (raises e f p) c = is_child p && is_same d e
brings_up d _ c = false

-- this stage needs d enabled: its verdict on d, for a child, is still to come
abbrev pub needs_enabled : DevId → Stage → Bool
needs_enabled d (stage.Resume (resume.Enter r)) = is_child r.purpose && is_same d r.dev
needs_enabled d (stage.Resume (resume.Verdict r tried)) = is_child r.purpose && is_same d r.dev
needs_enabled d (stage.Resume (resume.Waiting r tried)) = is_child r.purpose && is_same d r.dev
needs_enabled d (stage.Await (await.ResumeParent r)) = is_child r.purpose && is_same d r.dev
needs_enabled d _ = false

abbrev pub no_end : Call → ℤ → Bool
no_end k c = false
