-- What every open stage of a run has, and what every setting and every change is (this project's own).
use Rattle.std.specs.Prelude.{ℕ, ◌≡◌, ◌<◌, ◌≤◌, Bool, true, ◌&&◌, ℤ, pos, neg_ℤ, int_le, length, nat_lt}
use Rattle.std.specs.Option.{option_map_or}
use Rattle.pm_base.specs.declared.Cb.TheVariants as cb
use Rattle.pm_base.specs.declared.DevId.{DevId}
use Rattle.pm_model.specs.declared.plan.Plan.{Plan}
use Rattle.pm_model.specs.declared.stage.Await.{Await}
use Rattle.pm_model.specs.declared.stage.Await.TheVariants as await
use Rattle.pm_model.specs.declared.stage.ControlStage.{ControlStage}
use Rattle.pm_model.specs.declared.stage.ControlStage.TheVariants as control
use Rattle.pm_model.specs.declared.stage.HelperStage.TheVariants as at
use Rattle.pm_model.specs.declared.stage.IdleStage.{IdleStage}
use Rattle.pm_model.specs.declared.stage.IdleStage.TheVariants as idle
use Rattle.pm_model.specs.declared.stage.ResumeStage.{ResumeStage}
use Rattle.pm_model.specs.declared.stage.ResumeStage.TheVariants as resume
use Rattle.pm_model.specs.declared.stage.Stage.{Stage}
use Rattle.pm_model.specs.declared.stage.Stage.TheVariants as stage
use Rattle.pm_model.specs.declared.stage.SuspendStage.{SuspendStage}
use Rattle.pm_model.specs.declared.stage.SuspendStage.TheVariants as suspend
use Rattle.pm_model.specs.Derived.{begun}
use Rattle.pm_model.specs.IsPlan.{is_command}
use Rattle.pm_model.specs.LineOf.{is_device_of}
use Rattle.pm_model.specs.Views.{Views, device}
use Rattle.pm_model.specs.WellFormed.{device_of, is_in}
use Rattle.pm_laws.specs.stacks.Shape.{Fits, resume_call}

abbrev pub idle_flags : IdleStage → ℕ
idle_flags (idle.Enter d f) = f
idle_flags (idle.Verdict d f) = f
idle_flags (idle.Running d f since) = f
idle_flags (idle.Done d f c) = f
idle_flags (idle.Queued d f) = f
idle_flags (idle.AfterPut d f) = f

abbrev pub suspend_flags : SuspendStage → ℕ
suspend_flags (suspend.Enter d f) = f
suspend_flags (suspend.Verdict d f) = f
suspend_flags (suspend.Waiting d f) = f
suspend_flags (suspend.Running d f since) = f
suspend_flags (suspend.Domain d f) = f
suspend_flags (suspend.Links d f) = f
suspend_flags (suspend.Deferred d f) = f
suspend_flags (suspend.Parent d f) = f
suspend_flags (suspend.Done d f c) = f

abbrev pub await_flags : Await → ℕ
await_flags (await.SuspendLinks d f) = f
await_flags (await.SuspendDeferred d f) = f
await_flags (await.SuspendParent d f) = f
await_flags (await.ResumeParent r) = r.flags
await_flags (await.ResumeSupplier r link) = r.flags
await_flags (await.ResumeIdle r) = r.flags
await_flags (await.ResumeUnwind r c) = r.flags
await_flags (await.ResumePut r c) = r.flags
await_flags _ = 0

-- the flags of a stage's call, 0 where it has none
abbrev pub flags_at : Stage → ℕ
flags_at (stage.Idle s) = idle_flags s
flags_at (stage.Suspend s) = suspend_flags s
flags_at (stage.Resume s) = let r = resume_call s in r.flags
flags_at (stage.Await a) = await_flags a
flags_at _ = 0

abbrev pub resume_code : ResumeStage → ℤ
resume_code (resume.Supplied r c) = c
resume_code (resume.Done r c) = c
resume_code (resume.Parent r c) = c
resume_code (resume.Domain r c) = c
resume_code (resume.Unwind r c) = c
resume_code _ = pos 0

abbrev pub control_code : ControlStage → ℤ
control_code (control.BarrierIdle d c) = c
control_code (control.BarrierWait d c) = c
control_code (control.ActiveUnwind d c) = c
control_code _ = pos 0

abbrev pub await_code : Await → ℤ
await_code (await.ResumeUnwind r c) = c
await_code (await.ResumePut r c) = c
await_code (await.ActiveUnwind d c) = c
await_code _ = pos 0

-- the code that a stage carries, 0 where it carries none
abbrev pub code_at : Stage → ℤ
code_at (stage.Idle (idle.Done d f c)) = c
code_at (stage.Suspend (suspend.Done d f c)) = c
code_at (stage.Resume s) = resume_code s
code_at (stage.Helper (at.Ret h d c)) = c
code_at (stage.Control s) = control_code s
code_at (stage.Await a) = await_code a
code_at _ = pos 0

-- since when a callback runs, or a delay
abbrev pub since_at : Stage → ℕ
since_at (stage.Idle (idle.Running d f since)) = since
since_at (stage.Suspend (suspend.Running d f since)) = since
since_at (stage.Resume (resume.Running r since)) = since
since_at (stage.Helper (at.Delay ms since)) = since
since_at _ = 0

-- a code that a call may end with: an error of errno.h, 0 or 1
abbrev pub is_result : ℤ → Bool
is_result c = int_le (neg_ℤ (pos 4095)) c && int_le c (pos 1)

-- a time that a command may name, in milliseconds
abbrev pub is_delay : ℤ → Bool
is_delay n = int_le (neg_ℤ (pos 1000000)) n && int_le n (pos 1000000)

-- a callback that runs has begun, a command is one of the plan's, a delay isn't negative, and a helper without a device is
-- called with the first
abbrev pub IsTold : Plan → Views → Stage → Type 0
IsTold plan v (stage.Idle (idle.Running d f since)) = 0 < begun v cb.Idle d
IsTold plan v (stage.Suspend (suspend.Running d f since)) = 0 < begun v cb.Suspend d
IsTold plan v (stage.Resume (resume.Running r since)) = 0 < begun v cb.Resume r.dev
IsTold plan v (stage.Helper (at.Call c)) = is_command (length plan.devices) c ≡ true
IsTold plan v (stage.Helper (at.Start c)) = is_command (length plan.devices) c ≡ true
IsTold plan v (stage.Helper (at.PutSuspends c)) = is_command (length plan.devices) c ≡ true
IsTold plan v (stage.Helper (at.Delay ms since)) = int_le (pos 0) ms && int_le ms (pos 1000000) ≡ true
IsTold plan v (stage.Helper (at.Ret h d c)) = is_device_of (length plan.devices) h d ≡ true
IsTold plan v (stage.Control (control.Start c)) = is_command (length plan.devices) c ≡ true
IsTold plan v (stage.Await (await.Return h d)) = is_device_of (length plan.devices) h d ≡ true
IsTold plan v (stage.Await (await.ReturnZero h d)) = is_device_of (length plan.devices) h d ≡ true
IsTold plan v _ = Unit {0}

-- an open stage: its device is one of the plan's, its flags are some of the four, its code is one that a call may end
-- with, it has begun no later than the last line, and what it is about to tell is the plan's; and it is one of its kind
pub record IsFit (plan : Plan) (v : Views) (last : ℕ) (s : Stage) : Type 0 where
  pub device : option_map_or (is_in (length plan.devices)) (device_of s) true ≡ true
  pub flags : nat_lt (flags_at s) 16 ≡ true
  pub code : is_result (code_at s) ≡ true
  pub since : since_at s ≤ last
  pub told : IsTold plan v s
  pub fits : Fits plan s

-- the autosuspend delay of each device is one that a command may name
abbrev pub HasDelays : Views → Type 0
HasDelays v = (d : DevId) → is_delay (device v d).delay ≡ true
