-- The rows of idle, I(d, f), and of the stage after a put, T(d, f) (runtime_pm.rst, sections 2 and 4).
use Rattle.std.specs.Prelude.{ℕ, Bool, true, false, not, [], ◌∷◌, pos, int_lt, bit_or, if◌then◌else◌}
use Rattle.std.specs.Ordering.{int_eq}
use Rattle.pm_base.specs.declared.Cb.TheVariants as cb
use Rattle.pm_base.specs.declared.DevId.{DevId}
use Rattle.pm_base.specs.declared.Req.{Req}
use Rattle.pm_base.specs.declared.Req.TheVariants as req
use Rattle.pm_base.specs.declared.codes.TheConstants.{ASYNC, AUTO, EAGAIN, EINPROGRESS}
use Rattle.pm_model.specs.declared.event.Event.TheVariants as event
use Rattle.pm_model.specs.declared.event.WorkAct.TheVariants.{Queue}
use Rattle.pm_model.specs.declared.plan.Plan.{Plan}
use Rattle.pm_model.specs.declared.stage.Change.TheVariants as change
use Rattle.pm_model.specs.declared.stage.IdleStage.{IdleStage}
use Rattle.pm_model.specs.declared.stage.IdleStage.TheVariants as idle
use Rattle.pm_model.specs.declared.stage.Stage.TheVariants as stage
use Rattle.pm_model.specs.declared.stage.SuspendStage.TheVariants as suspend
use Rattle.pm_model.specs.declared.stage.Then.{Then}
use Rattle.pm_model.specs.PlanRows.{has_idle}
use Rattle.pm_model.specs.Views.{Views, device, pending_of}
use Rattle.pm_model.specs.Derived.{refusal, has, fields, is_active, is_in_use, callback_code, first_of}
use Rattle.pm_model.specs.Row.{Row, writes, call_returns, idles, goes, back}

-- suspend, autosuspend or resume
abbrev pub is_above_idle : Req → Bool
is_above_idle req.Nothing = false
is_above_idle req.Idle = false
is_above_idle _ = true

-- an idle that answers 0 goes on to suspend by the autosuspend rule
abbrev pub then_suspends : DevId → ℕ → Then
then_suspends d f = goes (stage.Suspend (suspend.Enter d (bit_or f AUTO)))

-- I1
unfoldable pub idle_verdict : Plan → Views → DevId → ℕ → ℕ → Row
idle_verdict plan v d f t =
    first_of (
    (int_lt (refusal plan v d) (pos 0), call_returns cb.Idle d (refusal plan v d) change.Same)
    ∷ (not (is_active v d), call_returns cb.Idle d EAGAIN change.Same)
    ∷ (is_above_idle (pending_of v d).request, call_returns cb.Idle d EAGAIN change.Same)
    ∷ ((device v d).idle_running, call_returns cb.Idle d EINPROGRESS change.Same)
    ∷ (not (has_idle plan d), writes (event.Return cb.Idle d (pos 0)) (change.CancelRequest d) (then_suspends d f))
    ∷ (has f ASYNC, writes (event.Work d (Queue req.Idle)) change.Same (goes (stage.Idle (idle.Queued d f))))
    ∷ []) (writes (event.Begin d cb.Idle) (change.CancelRequest d) (goes (stage.Idle (idle.Running d f t))))

-- I2
unfoldable pub idle_ends : Plan → Views → DevId → ℕ → ℕ → Row
idle_ends plan v d f t =
    let c = callback_code plan v cb.Idle d in
    writes (event.End d cb.Idle c) (change.CallbackMarks d) (goes (stage.Idle (idle.Done d f c)))

-- T
unfoldable pub after_put : Plan → Views → DevId → ℕ → Row
after_put plan v d f = first_of ((is_in_use v d, writes (event.Usage d (fields plan v d f)) change.Same (back (pos 0))) ∷ []) (idles plan v d f change.Same [])

abbrev pub idle_row : Plan → Views → IdleStage → ℕ → Row
idle_row plan v (idle.Enter d f) t = idles plan v d f change.Same []
idle_row plan v (idle.Verdict d f) t = idle_verdict plan v d f t
idle_row plan v (idle.Running d f since) t = idle_ends plan v d f t
idle_row plan v (idle.Done d f c) t = writes (event.Return cb.Idle d c) change.Same (if int_eq c (pos 0) then then_suspends d f else back c)
idle_row plan v (idle.Queued d f) t = call_returns cb.Idle d (pos 0) change.Same
idle_row plan v (idle.AfterPut d f) t = after_put plan v d f
