-- The rows of the helpers that no control function is, of work items and of timers (runtime_pm.rst, section 4).
use Rattle.std.specs.Prelude.{ℕ, ◌+◌, Bool, true, false, ◌&&◌, [], ◌∷◌, ℤ, pos, nat_eq, if◌then◌else◌}
use Rattle.pm_base.specs.declared.DevId.{DevId}
use Rattle.pm_base.specs.declared.Req.{Req}
use Rattle.pm_base.specs.declared.Req.TheVariants as req
use Rattle.pm_base.specs.declared.Why.TheVariants as why
use Rattle.pm_base.specs.declared.codes.TheConstants.{EINVAL}
use Rattle.pm_model.specs.declared.event.Command.{Command}
use Rattle.pm_model.specs.declared.event.Event.TheVariants as event
use Rattle.pm_model.specs.declared.event.Helper.{Helper}
use Rattle.pm_model.specs.declared.event.Helper.TheVariants as helper
use Rattle.pm_model.specs.declared.event.TimerAct.TheVariants.{Fire}
use Rattle.pm_model.specs.declared.event.WorkAct.TheVariants.{Run}
use Rattle.pm_model.specs.declared.plan.Plan.{Plan}
use Rattle.pm_model.specs.declared.stage.Await.TheVariants as await
use Rattle.pm_model.specs.declared.stage.Change.TheVariants as change
use Rattle.pm_model.specs.declared.stage.ControlStage.TheVariants as control
use Rattle.pm_model.specs.declared.stage.HelperStage.{HelperStage}
use Rattle.pm_model.specs.declared.stage.HelperStage.TheVariants as at
use Rattle.pm_model.specs.declared.stage.IdleStage.TheVariants as idle
use Rattle.pm_model.specs.declared.stage.Purpose.TheVariants.{Plain}
use Rattle.pm_model.specs.declared.stage.ResumeStage.TheVariants as resume
use Rattle.pm_model.specs.declared.stage.Stage.{Stage}
use Rattle.pm_model.specs.declared.stage.Stage.TheVariants as stage
use Rattle.pm_model.specs.declared.stage.SuspendStage.TheVariants as suspend
use Rattle.pm_model.specs.declared.stage.Then.{Then}
use Rattle.pm_model.specs.Views.{Views, device, pending_of}
use Rattle.pm_model.specs.Changes.{has_auto_timer}
use Rattle.pm_model.specs.Derived.{fields, is_active, is_disabled, is_in_use, first_of}
use Rattle.pm_model.specs.Row.{Row, writes, helper_returns, suspends, goes, calls, back}

-- RPM_ASYNC, RPM_GET_PUT and RPM_AUTO
abbrev pub async : ℕ
async = 1

abbrev pub get_put : ℕ
get_put = 4

abbrev pub auto : ℕ
auto = 8

-- the flags of a helper (runtime_pm.rst, section 4)
abbrev pub flags_of : Helper → ℕ
flags_of helper.GetSync = get_put
flags_of helper.Get = async + get_put
flags_of helper.RequestResume = async
flags_of helper.Put = async + get_put
flags_of helper.PutSync = get_put
flags_of helper.PutAutosuspend = async + get_put + auto
flags_of helper.PutSyncSuspend = get_put
flags_of helper.PutSyncAutosuspend = get_put + auto
flags_of helper.RequestIdle = async
flags_of helper.Autosuspend = auto
flags_of helper.RequestAutosuspend = async + auto
flags_of helper.ScheduleSuspend = async
flags_of _ = 0

-- the first stages of idle, of suspend and of a resume for the device itself
abbrev pub to_idle : DevId → ℕ → Stage
to_idle d f = stage.Idle (idle.Enter d f)

abbrev pub to_suspend : DevId → ℕ → Stage
to_suspend d f = stage.Suspend (suspend.Enter d f)

abbrev pub to_resume : DevId → ℕ → Stage
to_resume d f = stage.Resume (resume.Enter (record { dev = d; flags = f; held = false; purpose = Plain }))

-- where a command goes on after its call line, written at t
abbrev pub begins : Command → ℕ → Then
begins c t =
    let its_code = await.Return c.helper c.dev in
    let f = flags_of c.helper in
    elim c.helper as (λ _. Then) [
      | helper.Resume ↦ calls (to_resume c.dev f) its_code
      | helper.RequestResume ↦ calls (to_resume c.dev f) its_code
      | helper.Idle ↦ calls (to_idle c.dev f) its_code
      | helper.RequestIdle ↦ calls (to_idle c.dev f) its_code
      | helper.Suspend ↦ calls (to_suspend c.dev f) its_code
      | helper.Autosuspend ↦ calls (to_suspend c.dev f) its_code
      | helper.RequestAutosuspend ↦ calls (to_suspend c.dev f) its_code
      | helper.Delay ↦ goes (stage.Helper (at.Delay c.number t))
      | helper.GetSync ↦ goes (stage.Helper (at.Start c))
      | helper.Get ↦ goes (stage.Helper (at.Start c))
      | helper.GetNoresume ↦ goes (stage.Helper (at.Start c))
      | helper.GetIfInUse ↦ goes (stage.Helper (at.Start c))
      | helper.GetIfActive ↦ goes (stage.Helper (at.Start c))
      | helper.Put ↦ goes (stage.Helper (at.Start c))
      | helper.PutSync ↦ goes (stage.Helper (at.Start c))
      | helper.PutNoidle ↦ goes (stage.Helper (at.Start c))
      | helper.PutAutosuspend ↦ goes (stage.Helper (at.Start c))
      | helper.PutSyncSuspend ↦ goes (stage.Helper (at.Start c))
      | helper.PutSyncAutosuspend ↦ goes (stage.Helper (at.Start c))
      | _ ↦ goes (stage.Control (control.Start c))
    ]

abbrev pub then_returns : Helper → DevId → ℤ → Then
then_returns h d c = goes (stage.Helper (at.Ret h d c))

-- a get that may not resume
abbrev pub gets_if : Views → Command → Bool → Row
gets_if v c holds =
    first_of (
    (is_disabled v c.dev, helper_returns c.helper c.dev EINVAL change.Same)
    ∷ (is_active v c.dev && holds, writes (event.Get c.dev why.Caller) change.Same (then_returns c.helper c.dev (pos 1)))
    ∷ []) (helper_returns c.helper c.dev (pos 0) change.Same)

-- a put finds a count that a caller took
abbrev pub callers_put : Views → Command → Then → Row
callers_put v c next =
    first_of ((nat_eq (device v c.dev).share 0, helper_returns c.helper c.dev EINVAL change.Same) ∷ []) (writes (event.Put c.dev why.Caller) change.Same next)

-- the line after the call line; of the other helpers none comes here
unfoldable pub helper_starts : Views → Command → Row
helper_starts v c =
    let h = c.helper in
    let d = c.dev in
    let f = flags_of h in
    elim h as (λ _. Row) [
      | helper.GetSync ↦ writes (event.Get d why.Caller) change.Same (calls (to_resume d f) (await.Return h d))
      | helper.Get ↦ writes (event.Get d why.Caller) change.Same (calls (to_resume d f) (await.Return h d))
      | helper.GetNoresume ↦ writes (event.Get d why.Caller) change.Same (then_returns h d (pos 0))
      | helper.GetIfInUse ↦ gets_if v c (is_in_use v d)
      | helper.GetIfActive ↦ gets_if v c true
      | helper.Put ↦ callers_put v c (calls (stage.Idle (idle.AfterPut d f)) (await.Return h d))
      | helper.PutSync ↦ callers_put v c (calls (stage.Idle (idle.AfterPut d f)) (await.Return h d))
      | helper.PutAutosuspend ↦ callers_put v c (goes (stage.Helper (at.PutSuspends c)))
      | helper.PutSyncSuspend ↦ callers_put v c (goes (stage.Helper (at.PutSuspends c)))
      | helper.PutSyncAutosuspend ↦ callers_put v c (goes (stage.Helper (at.PutSuspends c)))
      | helper.PutNoidle ↦ callers_put v c (then_returns h d (pos 0))
      | _ ↦ helper_returns h d (pos 0) change.Same
    ]

-- a put that goes on to suspend where nothing else counts
unfoldable pub put_suspends : Plan → Views → Command → Row
put_suspends plan v c =
    let f = flags_of c.helper in
    first_of ((is_in_use v c.dev, writes (event.Usage c.dev (fields plan v c.dev f)) change.Same (then_returns c.helper c.dev (pos 0))) ∷ [])
    (suspends plan v c.dev f (stage.Await (await.Return c.helper c.dev) ∷ []))

-- what a work item carries out
abbrev pub carries_out : DevId → Req → Then
carries_out d req.Nothing = back (pos 0)
carries_out d req.Idle = goes (to_idle d 2)
carries_out d req.Suspend = goes (to_suspend d 2)
carries_out d req.Autosuspend = goes (to_suspend d 10)
carries_out d req.Resume = goes (to_resume d 2)

unfoldable pub timer_fires : Views → DevId → Row
timer_fires v d = writes (event.Timer d (Fire (has_auto_timer v d))) change.Same (goes (to_suspend d (if has_auto_timer v d then 9 else 1)))

abbrev pub helper_row : Plan → Views → HelperStage → ℕ → Row
helper_row plan v (at.Call c) t = writes (event.Call c) change.Same (begins c t)
helper_row plan v (at.Work d) t = writes (event.Work d (Run (pending_of v d).request)) change.Same (carries_out d (pending_of v d).request)
helper_row plan v (at.Timer d) t = timer_fires v d
helper_row plan v (at.Start c) t = helper_starts v c
helper_row plan v (at.PutSuspends c) t = put_suspends plan v c
helper_row plan v (at.Delay ms since) t = helper_returns helper.Delay (record { 0 = 0 }) (pos 0) change.Same
helper_row plan v (at.Ret h d c) t = helper_returns h d c change.Same
