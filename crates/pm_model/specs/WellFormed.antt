-- The device of a stage, and what each stage of a run has, so that its line can be told (this project's own).
use Rattle.std.specs.Prelude.{◌+◌, ◌^◌, ℕ, Bool, true, ◌&&◌, Option, Some, None, int_le, length, nat_abs, nat_lt, pos, if◌then◌else◌}
use Rattle.std.specs.Option.{option_map_or}
use Rattle.pm_base.specs.declared.Cb.{Cb}
use Rattle.pm_base.specs.declared.Cb.TheVariants as cb
use Rattle.pm_base.specs.declared.DevId.{DevId}
use Rattle.pm_model.specs.declared.event.Helper.{Helper}
use Rattle.pm_model.specs.declared.plan.Plan.{Plan}
use Rattle.pm_model.specs.declared.stage.Await.{Await}
use Rattle.pm_model.specs.declared.stage.Await.TheVariants as await
use Rattle.pm_model.specs.declared.stage.ControlStage.{ControlStage}
use Rattle.pm_model.specs.declared.stage.ControlStage.TheVariants as control
use Rattle.pm_model.specs.declared.stage.HelperStage.{HelperStage}
use Rattle.pm_model.specs.declared.stage.HelperStage.TheVariants as at
use Rattle.pm_model.specs.declared.stage.IdleStage.{IdleStage}
use Rattle.pm_model.specs.declared.stage.IdleStage.TheVariants as idle
use Rattle.pm_model.specs.declared.stage.ResumeStage.{ResumeStage}
use Rattle.pm_model.specs.declared.stage.ResumeStage.TheVariants as resume
use Rattle.pm_model.specs.declared.stage.Stage.{Stage}
use Rattle.pm_model.specs.declared.stage.Stage.TheVariants as stage
use Rattle.pm_model.specs.declared.stage.SuspendStage.{SuspendStage}
use Rattle.pm_model.specs.declared.stage.SuspendStage.TheVariants as suspend
use Rattle.pm_model.specs.Derived.{begun}
use Rattle.pm_model.specs.IsPlan.{is_command}
use Rattle.pm_model.specs.PlanRows.{has_parent, ms_of}
use Rattle.pm_model.specs.Spelling.{takes_device}
use Rattle.pm_model.specs.Views.{Views}

abbrev pub idle_device : IdleStage → DevId
idle_device (idle.Enter d f) = d
idle_device (idle.Verdict d f) = d
idle_device (idle.Running d f since) = d
idle_device (idle.Done d f c) = d
idle_device (idle.Queued d f) = d
idle_device (idle.AfterPut d f) = d

abbrev pub suspend_device : SuspendStage → DevId
suspend_device (suspend.Enter d f) = d
suspend_device (suspend.Verdict d f) = d
suspend_device (suspend.Waiting d f) = d
suspend_device (suspend.Running d f since) = d
suspend_device (suspend.Domain d f) = d
suspend_device (suspend.Links d f) = d
suspend_device (suspend.Deferred d f) = d
suspend_device (suspend.Parent d f) = d
suspend_device (suspend.Done d f c) = d

abbrev pub resume_device : ResumeStage → DevId
resume_device (resume.Enter r) = r.dev
resume_device (resume.Verdict r tried) = r.dev
resume_device (resume.Waiting r tried) = r.dev
resume_device (resume.Links r) = r.dev
resume_device (resume.Supplied r c) = r.dev
resume_device (resume.Callback r) = r.dev
resume_device (resume.Running r since) = r.dev
resume_device (resume.Resumed r) = r.dev
resume_device (resume.Idle r) = r.dev
resume_device (resume.Done r c) = r.dev
resume_device (resume.Parent r c) = r.dev
resume_device (resume.Domain r c) = r.dev
resume_device (resume.Unwind r c) = r.dev

abbrev pub control_device : ControlStage → DevId
control_device (control.Start c) = c.dev
control_device (control.DisablePut d) = d
control_device (control.Disable d) = d
control_device (control.Disabled d) = d
control_device (control.BarrierResume d) = d
control_device (control.BarrierIdle d c) = d
control_device (control.BarrierWait d c) = d
control_device (control.ActiveLinks d) = d
control_device (control.ActiveUnwind d c) = d
control_device (control.SuppliersIdle d last) = d

-- the device for which a helper is called; a delay has none
abbrev pub called_for : Helper → DevId → Option DevId
called_for h d = if takes_device h then Some d else None

-- a delay never stands at the line after its call, nor after a put
abbrev pub helper_device : HelperStage → Option DevId
helper_device (at.Call c) = called_for c.helper c.dev
helper_device (at.Work d) = Some d
helper_device (at.Timer d) = Some d
helper_device (at.Start c) = Some c.dev
helper_device (at.PutSuspends c) = Some c.dev
helper_device (at.Delay ms since) = None
helper_device (at.Ret h d c) = called_for h d

abbrev pub await_device : Await → Option DevId
await_device (await.SuspendLinks d f) = Some d
await_device (await.SuspendDeferred d f) = Some d
await_device (await.SuspendParent d f) = Some d
await_device (await.ResumeParent r) = Some r.dev
await_device (await.ResumeSupplier r link) = Some r.dev
await_device (await.ResumeIdle r) = Some r.dev
await_device (await.ResumeUnwind r c) = Some r.dev
await_device (await.ResumePut r c) = Some r.dev
await_device (await.Return h d) = called_for h d
await_device (await.ReturnZero h d) = called_for h d
await_device (await.DisableResume d) = Some d
await_device (await.BarrierResume d) = Some d
await_device (await.ActiveSupplier d link) = Some d
await_device (await.ActiveUnwind d c) = Some d
await_device (await.SuppliersIdle d supplier) = Some d

-- the device of a stage; a delay has none
abbrev pub device_of : Stage → Option DevId
device_of (stage.Idle s) = Some (idle_device s)
device_of (stage.Suspend s) = Some (suspend_device s)
device_of (stage.Resume s) = Some (resume_device s)
device_of (stage.Helper s) = helper_device s
device_of (stage.Control s) = Some (control_device s)
device_of (stage.Await s) = await_device s

-- one of so many devices
abbrev pub is_in : ℕ → DevId → Bool
is_in n d = nat_lt d.0 n

-- a moment in milliseconds of the run
abbrev pub is_moment : ℕ → Bool
is_moment t = nat_lt t (2 ^ 64)

-- a callback that runs since this moment has begun, and it ends at a moment
abbrev pub has_begun : Plan → Views → Cb → DevId → ℕ → Bool
has_begun plan v k d since = nat_lt 0 (begun v k d) && is_moment (since + ms_of plan k d)

abbrev pub can_tell_helper : ℕ → HelperStage → Bool
can_tell_helper n (at.Call c) = is_command n c
can_tell_helper n (at.Start c) = is_command n c
can_tell_helper n (at.PutSuspends c) = is_command n c
can_tell_helper n (at.Delay ms since) = int_le (pos 0) ms && is_moment (since + nat_abs ms)
can_tell_helper n _ = true

-- beside its device: a callback that runs has begun, the count on a parent has a parent, a command is one of the plan's, a
-- delay isn't negative, and moments fit
abbrev pub can_tell : Plan → Views → Stage → Bool
can_tell plan v (stage.Idle (idle.Running d f since)) = has_begun plan v cb.Idle d since
can_tell plan v (stage.Suspend (suspend.Running d f since)) = has_begun plan v cb.Suspend d since
can_tell plan v (stage.Resume (resume.Running r since)) = has_begun plan v cb.Resume r.dev since
can_tell plan v (stage.Resume (resume.Parent r c)) = r.held && has_parent plan r.dev
can_tell plan v (stage.Helper s) = can_tell_helper (length plan.devices) s
can_tell plan v (stage.Control (control.Start c)) = is_command (length plan.devices) c
can_tell plan v _ = true

-- a stage is well formed: its device is one of the plan's, and its line can be told
abbrev pub is_well_formed : Plan → Views → Stage → Bool
is_well_formed plan v s = option_map_or (is_in (length plan.devices)) (device_of s) true && can_tell plan v s
