-- The shape of a stack: which call may stand directly above a stage that awaits one (this project's own).
use Rattle.std.specs.Prelude.{ℕ, ◌≡◌, ◌⊎◌, Bool, true, false, not, ◌&&◌, List, [], ◌∷◌, Option, Some, ℤ, pos, slice_get, if◌then◌else◌}
use Rattle.std.specs.Ordering.{int_eq}
use Rattle.pm_base.specs.declared.ActorId.{ActorId}
use Rattle.pm_base.specs.declared.DevId.{DevId}
use Rattle.pm_base.specs.declared.codes.TheConstants.{ASYNC, NOWAIT, EACCES}
use Rattle.pm_model.specs.declared.event.Helper.{Helper}
use Rattle.pm_model.specs.declared.event.Helper.TheVariants as helper
use Rattle.pm_model.specs.declared.plan.Plan.{Plan}
use Rattle.pm_model.specs.declared.rows.LinkRow.{LinkRow}
use Rattle.pm_model.specs.declared.stage.Await.{Await}
use Rattle.pm_model.specs.declared.stage.Await.TheVariants as await
use Rattle.pm_model.specs.declared.stage.ControlStage.TheVariants as control
use Rattle.pm_model.specs.declared.stage.HelperStage.{HelperStage}
use Rattle.pm_model.specs.declared.stage.HelperStage.TheVariants as at
use Rattle.pm_model.specs.declared.stage.IdleStage.{IdleStage}
use Rattle.pm_model.specs.declared.stage.IdleStage.TheVariants as idle
use Rattle.pm_model.specs.declared.stage.Purpose.{Purpose}
use Rattle.pm_model.specs.declared.stage.Purpose.TheVariants as purpose
use Rattle.pm_model.specs.declared.stage.ResumeCall.{ResumeCall}
use Rattle.pm_model.specs.declared.stage.ResumeStage.{ResumeStage}
use Rattle.pm_model.specs.declared.stage.ResumeStage.TheVariants as resume
use Rattle.pm_model.specs.declared.stage.Stage.{Stage}
use Rattle.pm_model.specs.declared.stage.Stage.TheVariants as stage
use Rattle.pm_model.specs.declared.stage.SuspendStage.{SuspendStage}
use Rattle.pm_model.specs.declared.stage.SuspendStage.TheVariants as suspend
use Rattle.pm_model.specs.Derived.{has}
use Rattle.pm_model.specs.HelperTable.{flags_of}
use Rattle.pm_model.specs.PlanRows.{no_callbacks, has_parent, parent_of}
use Rattle.pm_model.specs.ResumeTable.{is_supplied}
use Rattle.pm_model.specs.Spelling.{takes_device}
use Rattle.pm_model.specs.SuspendTable.{may_not_wait}
use Rattle.pm_model.specs.WellFormed.{await_device, control_device, helper_device}
use Rattle.pm_model.specs.World.{World, place}

-- what a stage carries out: nothing yet, at an empty place; a helper's own work, with its device; an idle, a suspend or
-- what follows a put, and whether its flags have ASYNC without NOWAIT; or a resume
pub data Call : Type 0 where
  none : Call
  own : Option DevId → Call
  lowers : DevId → Bool → Call
  raises : DevId → ℕ → Purpose → Call

abbrev pub is_odd : ℕ → Bool
is_odd f = has f ASYNC && not (has f NOWAIT)

abbrev pub lowering : DevId → ℕ → Call
lowering d f = lowers d (is_odd f)

abbrev pub raising : ResumeCall → Call
raising r = raises r.dev r.flags r.purpose

abbrev pub idle_call : IdleStage → Call
idle_call (idle.Enter d f) = lowering d f
idle_call (idle.Verdict d f) = lowering d f
idle_call (idle.Running d f since) = lowering d f
idle_call (idle.Done d f c) = lowering d f
idle_call (idle.Queued d f) = lowering d f
idle_call (idle.AfterPut d f) = lowering d f

abbrev pub suspend_call : SuspendStage → Call
suspend_call (suspend.Enter d f) = lowering d f
suspend_call (suspend.Verdict d f) = lowering d f
suspend_call (suspend.Waiting d f) = lowering d f
suspend_call (suspend.Running d f since) = lowering d f
suspend_call (suspend.Domain d f) = lowering d f
suspend_call (suspend.Links d f) = lowering d f
suspend_call (suspend.Deferred d f) = lowering d f
suspend_call (suspend.Parent d f) = lowering d f
suspend_call (suspend.Done d f c) = lowering d f

abbrev pub resume_call : ResumeStage → ResumeCall
resume_call (resume.Enter r) = r
resume_call (resume.Verdict r tried) = r
resume_call (resume.Waiting r tried) = r
resume_call (resume.Links r) = r
resume_call (resume.Supplied r c) = r
resume_call (resume.Callback r) = r
resume_call (resume.Running r since) = r
resume_call (resume.Resumed r) = r
resume_call (resume.Idle r) = r
resume_call (resume.Done r c) = r
resume_call (resume.Parent r c) = r
resume_call (resume.Domain r c) = r
resume_call (resume.Unwind r c) = r

abbrev pub await_call : Await → Call
await_call (await.SuspendLinks d f) = lowering d f
await_call (await.SuspendDeferred d f) = lowering d f
await_call (await.SuspendParent d f) = lowering d f
await_call (await.ResumeParent r) = raising r
await_call (await.ResumeSupplier r link) = raising r
await_call (await.ResumeIdle r) = raising r
await_call (await.ResumeUnwind r c) = raising r
await_call (await.ResumePut r c) = raising r
await_call a = own (await_device a)

abbrev pub helper_stage_call : HelperStage → Call
helper_stage_call (at.Work d) = none
helper_stage_call (at.Timer d) = none
helper_stage_call s = own (helper_device s)

abbrev pub call_of : Stage → Call
call_of (stage.Idle s) = idle_call s
call_of (stage.Suspend s) = suspend_call s
call_of (stage.Resume s) = raising (resume_call s)
call_of (stage.Helper s) = helper_stage_call s
call_of (stage.Control s) = own (Some (control_device s))
call_of (stage.Await a) = await_call a

-- link l has pm_runtime, and is of consumer d and supplier s
pub record IsLink (plan : Plan) (l : ℕ) (d s : DevId) : Type 0 where
  pub row : LinkRow
  pub is : slice_get plan.links l ≡ Some row
  pub consumer : row.consumer ≡ d
  pub supplier : row.supplier ≡ s
  pub runtime : row.pm_runtime ≡ true

-- a supplier of d is told that a count on it was given back, or that d is Suspended
abbrev pub LowersSupplier : Plan → DevId → Call → Type 0
LowersSupplier plan d k = (l : ℕ) × (s : DevId) × IsLink plan l d s × (k ≡ lowers s true)

abbrev pub LowersParent : Plan → DevId → Call → Type 0
LowersParent plan d k = (has_parent plan d ≡ true) × (k ≡ lowers (parent_of plan d) true)

abbrev pub RaisesSupplier : Plan → ℕ → DevId → Call → Type 0
RaisesSupplier plan l d k = (s : DevId) × IsLink plan l d s × (k ≡ raises s 4 (purpose.Link l))

-- the helpers that return the code of a resume
abbrev pub returns_resume : Helper → Bool
returns_resume helper.GetSync = true
returns_resume helper.Get = true
returns_resume helper.Resume = true
returns_resume helper.RequestResume = true
returns_resume _ = false

-- the puts that go on to suspend
abbrev pub is_put_suspend : Helper → Bool
is_put_suspend helper.PutAutosuspend = true
is_put_suspend helper.PutSyncSuspend = true
is_put_suspend helper.PutSyncAutosuspend = true
is_put_suspend _ = false

-- the call whose code a helper returns
abbrev pub helper_call : Helper → DevId → Call
helper_call h d = if returns_resume h then raises d (flags_of h) purpose.Plain else lowering d (flags_of h)

-- the call of a helper that returns 0 whatever its code
abbrev pub MayZero : Plan → Helper → DevId → Call → Type 0
MayZero plan helper.Forbid d k = k ≡ raises d 0 purpose.Plain
MayZero plan helper.Allow d k = k ≡ lowers d true
MayZero plan helper.UseAutosuspend d k = (k ≡ raises d 0 purpose.Plain) ⊎ (k ≡ lowers d false)
MayZero plan helper.DontUseAutosuspend d k = (k ≡ raises d 0 purpose.Plain) ⊎ (k ≡ lowers d false)
MayZero plan helper.SetAutosuspendDelay d k = (k ≡ raises d 0 purpose.Plain) ⊎ (k ≡ lowers d false)
MayZero plan helper.SetSuspended d k = LowersParent plan d k
MayZero plan helper.LinkDel d k = LowersSupplier plan d k
MayZero plan _ d k = ⊥

-- the call that may stand directly above a stage that awaits one
abbrev pub May : Plan → Await → Call → Type 0
May plan (await.SuspendLinks d f) k = LowersSupplier plan d k
May plan (await.SuspendDeferred d f) k = k ≡ raises d 0 purpose.Plain
May plan (await.SuspendParent d f) k = LowersParent plan d k
May plan (await.ResumeParent r) k = (has_parent plan r.dev ≡ true) × (k ≡ raises (parent_of plan r.dev) 0 purpose.Child)
May plan (await.ResumeSupplier r l) k = RaisesSupplier plan l r.dev k
May plan (await.ResumeIdle r) k = k ≡ lowers r.dev true
May plan (await.ResumeUnwind r c) k = LowersSupplier plan r.dev k
May plan (await.ResumePut r c) k = LowersParent plan r.dev k
May plan (await.Return h d) k = k ≡ helper_call h d
May plan (await.ReturnZero h d) k = MayZero plan h d k
May plan (await.DisableResume d) k = k ≡ raises d 0 purpose.Plain
May plan (await.BarrierResume d) k = k ≡ raises d 0 purpose.Plain
May plan (await.ActiveSupplier d l) k = RaisesSupplier plan l d k
May plan (await.ActiveUnwind d c) k = LowersSupplier plan d k
May plan (await.SuppliersIdle d s) k = (l : ℕ) × IsLink plan l d s × (k ≡ lowers s true)

abbrev pub MayOver : Plan → Stage → Call → Type 0
MayOver plan (stage.Await a) k = May plan a k
MayOver plan s k = ⊥

-- what may stand at the bottom
abbrev pub IsBottom : Call → Type 0
IsBottom (raises d f p) = p ≡ purpose.Plain
IsBottom _ = Unit {0}

-- the mark held is set where there is a parent
abbrev pub IsMarked : Plan → ResumeCall → Type 0
IsMarked plan r = has_parent plan r.dev && not r.held ≡ false

-- a code with which a resume ends that found its device neither Active nor disabled
abbrev pub IsEndCode : ℤ → Type 0
IsEndCode c = (int_eq c (pos 1) ≡ false) × (int_eq c EACCES ≡ false)

-- the mark held is set, and there is a parent
abbrev pub HoldsParent : Plan → ResumeCall → Type 0
HoldsParent plan r = r.held && has_parent plan r.dev ≡ true

-- at S6, a suspend with ASYNC is one of a device without callbacks
abbrev pub IsSyncOrQuiet : Plan → DevId → ℕ → Type 0
IsSyncOrQuiet plan d f = (has f ASYNC ≡ false) ⊎ (no_callbacks plan d ≡ true)

-- what a stage of its kind has: a suspend that has begun its callback is no asynchronous one, one that waits may wait, a
-- resume that goes on holds a count on the parent, and codes are those of a failure, or of an end
abbrev pub Fits : Plan → Stage → Type 0
Fits plan (stage.Suspend (suspend.Waiting d f)) = may_not_wait f ≡ false
Fits plan (stage.Suspend (suspend.Running d f since)) = has f ASYNC ≡ false
Fits plan (stage.Suspend (suspend.Domain d f)) = has f ASYNC ≡ false
Fits plan (stage.Suspend (suspend.Links d f)) = has f ASYNC ≡ false
Fits plan (stage.Suspend (suspend.Deferred d f)) = has f ASYNC ≡ false
Fits plan (stage.Suspend (suspend.Parent d f)) = IsSyncOrQuiet plan d f
Fits plan (stage.Await (await.SuspendLinks d f)) = has f ASYNC ≡ false
Fits plan (stage.Await (await.SuspendDeferred d f)) = has f ASYNC ≡ false
Fits plan (stage.Await (await.SuspendParent d f)) = IsSyncOrQuiet plan d f
Fits plan (stage.Resume (resume.Waiting r tried)) = may_not_wait r.flags ≡ false
Fits plan (stage.Resume (resume.Links r)) = IsMarked plan r
Fits plan (stage.Resume (resume.Supplied r c)) = IsMarked plan r
Fits plan (stage.Resume (resume.Callback r)) = IsMarked plan r
Fits plan (stage.Resume (resume.Running r since)) = IsMarked plan r
Fits plan (stage.Resume (resume.Resumed r)) = IsMarked plan r
Fits plan (stage.Resume (resume.Done r c)) = IsEndCode c
Fits plan (stage.Resume (resume.Parent r c)) = HoldsParent plan r
Fits plan (stage.Resume (resume.Domain r c)) = is_supplied c ≡ false
Fits plan (stage.Resume (resume.Unwind r c)) = is_supplied c ≡ false
Fits plan (stage.Control (control.ActiveUnwind d c)) = is_supplied c ≡ false
Fits plan (stage.Await (await.ResumeParent r)) = HoldsParent plan r
Fits plan (stage.Await (await.ResumeSupplier r link)) = IsMarked plan r
Fits plan (stage.Await (await.ResumeUnwind r c)) = is_supplied c ≡ false
Fits plan (stage.Await (await.ResumePut r c)) = HoldsParent plan r
Fits plan (stage.Await (await.ActiveUnwind d c)) = is_supplied c ≡ false
Fits plan (stage.Await (await.ReturnZero h d)) = returns_resume h ≡ false
Fits plan (stage.Await (await.Return h d)) = takes_device h ≡ true
Fits plan (stage.Helper (at.PutSuspends c)) = is_put_suspend c.helper ≡ true
Fits plan (stage.Control (control.Start c)) = returns_resume c.helper ≡ false
Fits plan _ = Unit {0}

-- below a stage of this call each stage awaits the one above it, and is one of its kind
abbrev pub Nested : Plan → Call → List Stage → Type 0
Nested plan k [] = IsBottom k
Nested plan k (s ∷ rest) = MayOver plan s k × Fits plan s × Nested plan (call_of s) rest

-- a stage that awaits a call is never the first to write
abbrev pub IsAwake : Stage → Type 0
IsAwake (stage.Await a) = ⊥
IsAwake s = Unit {0}

abbrev pub IsNested : Plan → List Stage → Type 0
IsNested plan [] = Unit {0}
IsNested plan (s ∷ rest) = IsAwake s × Fits plan s × Nested plan (call_of s) rest

-- the places of all actors
abbrev pub AreNested : Plan → World → Type 0
AreNested plan w = (a : ActorId) → IsNested plan (place w a)
