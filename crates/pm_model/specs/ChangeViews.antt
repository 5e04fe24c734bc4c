-- What a change that a row of the call table names makes of the views (this project's own).
use Rattle.std.specs.Prelude.{ℕ, false, ℤ, pos, if◌then◌else◌}
use Rattle.std.specs.Ordering.{int_eq}
use Rattle.pm_base.specs.declared.DevId.{DevId}
use Rattle.pm_base.specs.declared.Req.TheVariants.{Nothing}
use Rattle.pm_model.specs.declared.plan.Plan.{Plan}
use Rattle.pm_model.specs.declared.stage.Change.{Change}
use Rattle.pm_model.specs.declared.stage.Change.TheVariants as change
use Rattle.pm_model.specs.Views.{Views}
use Rattle.pm_model.specs.Changes.{callback_marks, cancel, cancel_all, disabled_at_once, disables, disables_busy, disarm, enables, keeps_status, rcancel, set_deferred, set_ignores, set_last_busy, set_present, set_request, set_setting}
use Rattle.pm_model.specs.Events.{is_try_again}

-- what the end of a suspend callback with code c changes beside the event's own
unfoldable pub suspend_ended : Plan → DevId → ℤ → ℕ → Views → Views
suspend_ended plan d c t v =
    let marked = callback_marks plan d t v in
    if int_eq c (pos 0) then marked
    else if is_try_again c then set_deferred false d marked
    else cancel d (set_deferred false d marked)

-- the views after the change that a row names, of a line at t
abbrev pub change_views : Plan → ℕ → Change → Views → Views
change_views plan t change.Same v = v
change_views plan t (change.CancelRequest d) v = set_request Nothing d v
change_views plan t (change.Disarm d) v = disarm d v
change_views plan t (change.Cancel d) v = cancel d v
change_views plan t (change.CancelAll d) v = cancel_all d v
change_views plan t (change.ResumeCancel d) v = rcancel d v
change_views plan t (change.CallbackMarks d) v = callback_marks plan d t v
change_views plan t (change.SuspendEnded d c) v = suspend_ended plan d c t v
change_views plan t (change.MarkBusy d) v = set_last_busy t d v
change_views plan t (change.Enable d) v = enables d v
change_views plan t (change.Disable d) v = disables d v
change_views plan t (change.DisableBusy d) v = disables_busy d v
change_views plan t (change.DisableAtOnce d) v = disabled_at_once d v
change_views plan t (change.KeepStatus d) v = keeps_status d v
change_views plan t (change.Set d use_auto delay) v = set_setting use_auto delay d v
change_views plan t (change.Ignore d ignores) v = set_ignores ignores d v
change_views plan t (change.Link consumer supplier present) v = set_present plan consumer supplier present v
