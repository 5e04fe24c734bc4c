-- The rows of the control functions: enable, disable, barrier, set_active, set_suspended, allow, forbid,
-- mark_last_busy, the autosuspend settings and schedule_suspend (runtime_pm.rst, sections 4, 5 and 9), and the three
-- topology helpers, which are this project's own.
use Rattle.std.specs.Prelude.{ℕ, ◌+◌, Bool, true, false, not, ◌&&◌, ◌||◌, List, [], ◌∷◌, Option, Some, None, ℤ, pos, nat_abs, nat_eq}
use Rattle.std.specs.List.{list_any, zip}
use Rattle.std.specs.Ordering.{int_eq}
use Rattle.pm_base.specs.declared.DevId.{DevId}
use Rattle.pm_base.specs.declared.Why.TheVariants as why
use Rattle.pm_base.specs.declared.codes.TheConstants.{EAGAIN, EBUSY, EINVAL}
use Rattle.pm_model.specs.declared.event.Command.{Command}
use Rattle.pm_model.specs.declared.event.Event.TheVariants as event
use Rattle.pm_model.specs.declared.event.Helper.{Helper}
use Rattle.pm_model.specs.declared.event.Helper.TheVariants as helper
use Rattle.pm_model.specs.declared.event.TimerAct.TheVariants.{Arm}
use Rattle.pm_model.specs.declared.event.Word.TheVariants as word
use Rattle.pm_model.specs.declared.plan.Plan.{Plan}
use Rattle.pm_model.specs.declared.stage.Await.TheVariants as await
use Rattle.pm_model.specs.declared.stage.Change.TheVariants as change
use Rattle.pm_model.specs.declared.stage.ControlStage.{ControlStage}
use Rattle.pm_model.specs.declared.stage.ControlStage.TheVariants as control
use Rattle.pm_model.specs.declared.stage.IdleStage.TheVariants as idle
use Rattle.pm_model.specs.declared.stage.Purpose.TheVariants.{Plain}
use Rattle.pm_model.specs.declared.stage.Stage.{Stage}
use Rattle.pm_model.specs.declared.stage.Stage.TheVariants as stage
use Rattle.pm_model.specs.declared.stage.Then.{Then}
use Rattle.pm_model.specs.PlanRows.{parent_of, is_of_pair}
use Rattle.pm_model.specs.Views.{Views, device}
use Rattle.pm_model.specs.Derived.{refusal, has_error, is_disabled, is_active, is_suspended, asks_resume, awaits_parent, busy, prevented, first_held, first_free, next_supplier, has_link, first_of}
use Rattle.pm_model.specs.Row.{Row, writes, waits, helper_returns, idles, suspends, resumes, goes, calls}
use Rattle.pm_model.specs.SuspendTable.{tells_parent}
use Rattle.pm_model.specs.ResumeTable.{resumes_supplier}
use Rattle.pm_model.specs.HelperTable.{to_idle, to_resume, then_returns}

abbrev pub control_goes : ControlStage → Then
control_goes s = goes (stage.Control s)

-- a call whose code doesn't matter, and then the return line with 0
abbrev pub then_zero : Helper → DevId → List Stage
then_zero h d = stage.Await (await.ReturnZero h d) ∷ []

-- enable
unfoldable pub enabling : Views → DevId → Row
enabling v d = first_of ((not (is_disabled v d), helper_returns helper.Enable d EINVAL change.Same) ∷ []) (helper_returns helper.Enable d (pos 0) (change.Enable d))

-- X2
unfoldable pub disabling : Views → DevId → Row
disabling v d =
    first_of (
    (is_disabled v d, helper_returns helper.Disable d (pos 0) (change.Disable d))
    ∷ (busy v d, writes (event.Wait d) (change.DisableBusy d) (control_goes (control.Disabled d)))
    ∷ []) (helper_returns helper.Disable d (pos 0) (change.DisableAtOnce d))

-- X1
unfoldable pub disable_starts : Views → DevId → Row
disable_starts v d =
    first_of ((not (is_disabled v d) && asks_resume v d, writes (event.Get d why.Control) change.Same (calls (to_resume d 0) (await.DisableResume d))) ∷ []) (disabling v d)

-- X3
unfoldable pub disable_ends : Views → DevId → Row
disable_ends v d =
    first_of (
    (busy v d, waits d)
    ∷ (is_disabled v d, helper_returns helper.Disable d (pos 0) (change.KeepStatus d))
    ∷ []) (helper_returns helper.Disable d (pos 0) change.Same)

-- barrier, once no resume is pending
unfoldable pub barrier_idles : Views → DevId → ℤ → Row
barrier_idles v d c =
    first_of ((busy v d, writes (event.Wait d) (change.CancelAll d) (control_goes (control.BarrierWait d c))) ∷ [])
    (writes (event.Put d why.Control) (change.CancelAll d) (then_returns helper.Barrier d c))

unfoldable pub barrier_resumes : Plan → Views → DevId → Row
barrier_resumes plan v d =
    first_of ((asks_resume v d, resumes plan v d 0 Plain (stage.Await (await.BarrierResume d) ∷ [])) ∷ []) (barrier_idles v d (pos 0))

unfoldable pub barrier_ends : Views → DevId → ℤ → Row
barrier_ends v d c = first_of ((busy v d, waits d) ∷ []) (writes (event.Put d why.Control) change.Same (then_returns helper.Barrier d c))

-- a status can be forced only while the device has an error or is disabled, and none of its callbacks runs
abbrev pub may_not_force : Views → DevId → Bool
may_not_force v d = (not (has_error v d) && not (is_disabled v d)) || busy v d

abbrev pub forces_active : DevId → Row
forces_active d = writes (event.State d word.ForcedActive) change.Same (then_returns helper.SetActive d (pos 0))

-- A1
unfoldable pub active_starts : Plan → Views → DevId → Row
active_starts plan v d =
    first_of (
    (may_not_force v d, helper_returns helper.SetActive d EAGAIN change.Same)
    ∷ (is_active v d, forces_active d)
    ∷ (has_link plan v d, writes (event.State d word.Resuming) change.Same (control_goes (control.ActiveLinks d)))
    ∷ (awaits_parent plan v d, helper_returns helper.SetActive d EBUSY change.Same)
    ∷ []) (forces_active d)

-- A4
abbrev pub active_gives : DevId → ℤ → Option (ℕ × DevId) → Row
active_gives d c (Some link) = writes (event.Put link.1 (why.Link d)) change.Same (calls (stage.Idle (idle.AfterPut link.1 5)) (await.ActiveUnwind d c))
active_gives d c None = writes (event.State d word.Suspended) change.Same (then_returns helper.SetActive d c)

unfoldable pub active_unwinds : Plan → Views → DevId → ℤ → Row
active_unwinds plan v d c = active_gives d c (first_held plan v d)

-- A2
abbrev pub active_takes : Plan → Views → DevId → Option (ℕ × DevId) → Row
active_takes plan v d (Some link) = writes (event.Get link.1 (why.Link d)) change.Same (calls (resumes_supplier link) (await.ActiveSupplier d link.0))
active_takes plan v d None = first_of ((awaits_parent plan v d, active_unwinds plan v d EBUSY) ∷ []) (forces_active d)

unfoldable pub active_links : Plan → Views → DevId → Row
active_links plan v d = active_takes plan v d (first_free plan v d)

unfoldable pub suspended_starts : Views → DevId → Row
suspended_starts v d =
    first_of ((may_not_force v d, helper_returns helper.SetSuspended d EAGAIN change.Same) ∷ [])
    (writes (event.State d word.ForcedSuspended) change.Same (control_goes (control.SuppliersIdle d None)))

-- set_suspended tells each supplier in turn, then the parent
abbrev pub tells_supplier : Plan → Views → DevId → Option (ℕ × DevId) → Row
tells_supplier plan v d (Some link) = idles plan v link.1 1 change.Same (stage.Await (await.SuppliersIdle d link.1) ∷ [])
tells_supplier plan v d None =
    first_of ((tells_parent plan v d, idles plan v (parent_of plan d) 1 change.Same (then_zero helper.SetSuspended d)) ∷ [])
    (helper_returns helper.SetSuspended d (pos 0) change.Same)

unfoldable pub suppliers_idle : Plan → Views → DevId → Option DevId → Row
suppliers_idle plan v d last = tells_supplier plan v d (next_supplier plan v d last)

unfoldable pub forbidding : Views → DevId → Row
forbidding v d =
    first_of ((not (device v d).auto_on, helper_returns helper.Forbid d (pos 0) change.Same) ∷ [])
    (writes (event.Get d why.Forbid) change.Same (calls (to_resume d 0) (await.ReturnZero helper.Forbid d)))

unfoldable pub allowing : Views → DevId → Row
allowing v d =
    first_of (((device v d).auto_on, helper_returns helper.Allow d (pos 0) change.Same) ∷ [])
    (writes (event.Put d why.Forbid) change.Same (calls (stage.Idle (idle.AfterPut d 9)) (await.ReturnZero helper.Allow d)))

-- use_autosuspend, dont_use_autosuspend and set_autosuspend_delay, with the new setting
unfoldable pub sets : Plan → Views → Helper → DevId → Bool → ℤ → Row
sets plan v h d use_auto delay =
    let was = prevented (device v d).use_auto (device v d).delay in
    let is = prevented use_auto delay in
    let new = change.Set d use_auto delay in
    first_of (
    (not was && is, writes (event.Get d why.Delay) new (calls (to_resume d 0) (await.ReturnZero h d)))
    ∷ (was && is, helper_returns h d (pos 0) new)
    ∷ (was && not is, writes (event.Put d why.Delay) new (calls (to_idle d 8) (await.ReturnZero h d)))
    ∷ []) (idles plan v d 8 new (then_zero h d))

unfoldable pub schedules : Plan → Views → DevId → ℕ → ℕ → Row
schedules plan v d ms t =
    first_of (
    (nat_eq ms 0, suspends plan v d 1 (stage.Await (await.Return helper.ScheduleSuspend d) ∷ []))
    ∷ (not (int_eq (refusal plan v d) (pos 0)), helper_returns helper.ScheduleSuspend d (refusal plan v d) change.Same)
    ∷ []) (writes (event.Timer d (Arm (t + ms) false)) (change.CancelRequest d) (then_returns helper.ScheduleSuspend d (pos 0)))

-- a link of the pair begins absent; one of its links is present, or held
abbrev pub may_be_absent : Plan → DevId → DevId → Bool
may_be_absent plan c s = list_any (λ row. is_of_pair c s row && row.later) plan.links

abbrev pub is_pair_in : Plan → DevId → DevId → List Bool → Bool
is_pair_in plan c s bits = list_any (λ p. is_of_pair c s p.0 && p.1) (zip plan.links bits)

unfoldable pub link_adds : Plan → Views → DevId → DevId → Row
link_adds plan v c s =
    first_of (
    (not (may_be_absent plan c s) || is_pair_in plan c s v.present, helper_returns helper.LinkAdd c EINVAL change.Same)
    ∷ (not (is_suspended v c) || busy v c, helper_returns helper.LinkAdd c EAGAIN change.Same)
    ∷ []) (helper_returns helper.LinkAdd c (pos 0) (change.Link c s true))

unfoldable pub link_dels : Plan → Views → DevId → DevId → Row
link_dels plan v c s =
    first_of (
    (not (may_be_absent plan c s) || not (is_pair_in plan c s v.present), helper_returns helper.LinkDel c EINVAL change.Same)
    ∷ (busy v c, helper_returns helper.LinkDel c EAGAIN change.Same)
    ∷ (
      is_pair_in plan c s v.held,
      writes (event.Put s (why.Link c)) (change.Link c s false) (calls (stage.Idle (idle.AfterPut s 5)) (await.ReturnZero helper.LinkDel c)),
    )
    ∷ []) (helper_returns helper.LinkDel c (pos 0) (change.Link c s false))

-- the line after the call line; of the other helpers none comes here
unfoldable pub control_starts : Plan → Views → Command → ℕ → Row
control_starts plan v c t =
    let h = c.helper in
    let d = c.dev in
    let supplier : DevId = record { 0 = nat_abs c.number } in
    elim h as (λ _. Row) [
      | helper.ScheduleSuspend ↦ schedules plan v d (nat_abs c.number) t
      | helper.Enable ↦ enabling v d
      | helper.Disable ↦ disable_starts v d
      | helper.Barrier ↦ writes (event.Get d why.Control) change.Same (control_goes (control.BarrierResume d))
      | helper.SetActive ↦ active_starts plan v d
      | helper.SetSuspended ↦ suspended_starts v d
      | helper.Allow ↦ allowing v d
      | helper.Forbid ↦ forbidding v d
      | helper.MarkLastBusy ↦ helper_returns h d (pos 0) (change.MarkBusy d)
      | helper.UseAutosuspend ↦ sets plan v h d true (device v d).delay
      | helper.DontUseAutosuspend ↦ sets plan v h d false (device v d).delay
      | helper.SetAutosuspendDelay ↦ sets plan v h d (device v d).use_auto c.number
      | helper.IgnoreChildren ↦ helper_returns h d (pos 0) (change.Ignore d (not (int_eq c.number (pos 0))))
      | helper.LinkAdd ↦ link_adds plan v d supplier
      | helper.LinkDel ↦ link_dels plan v d supplier
      | _ ↦ helper_returns h d (pos 0) change.Same
    ]

abbrev pub control_row : Plan → Views → ControlStage → ℕ → Row
control_row plan v (control.Start c) t = control_starts plan v c t
control_row plan v (control.DisablePut d) t = writes (event.Put d why.Control) change.Same (control_goes (control.Disable d))
control_row plan v (control.Disable d) t = disabling v d
control_row plan v (control.Disabled d) t = disable_ends v d
control_row plan v (control.BarrierResume d) t = barrier_resumes plan v d
control_row plan v (control.BarrierIdle d c) t = barrier_idles v d c
control_row plan v (control.BarrierWait d c) t = barrier_ends v d c
control_row plan v (control.ActiveLinks d) t = active_links plan v d
control_row plan v (control.ActiveUnwind d c) t = active_unwinds plan v d c
control_row plan v (control.SuppliersIdle d last) t = suppliers_idle plan v d last
