-- The rows of suspend, S(d, f) (runtime_pm.rst, sections 2, 4 and 9).
use Rattle.std.specs.Prelude.{ℕ, Bool, true, false, not, ◌&&◌, ◌||◌, [], ◌∷◌, Option, Some, None, pos, min, unwrap_or, if◌then◌else◌}
use Rattle.std.specs.Option.{option_map_or}
use Rattle.std.specs.Ordering.{int_eq}
use Rattle.std.specs.Prelude.{length}
use Rattle.pm_base.specs.declared.Cb.TheVariants as cb
use Rattle.pm_base.specs.declared.DevId.{DevId}
use Rattle.pm_base.specs.declared.Req.{Req}
use Rattle.pm_base.specs.declared.Req.TheVariants as req
use Rattle.pm_base.specs.declared.Why.TheVariants as why
use Rattle.pm_base.specs.declared.codes.TheConstants.{ASYNC, NOWAIT, AUTO, EAGAIN, EINPROGRESS}
use Rattle.pm_model.specs.declared.event.Event.TheVariants as event
use Rattle.pm_model.specs.declared.event.TimerAct.TheVariants.{Arm}
use Rattle.pm_model.specs.declared.event.Word.TheVariants as word
use Rattle.pm_model.specs.declared.event.WorkAct.TheVariants.{Queue}
use Rattle.pm_model.specs.declared.plan.Plan.{Plan}
use Rattle.pm_model.specs.declared.stage.Await.TheVariants as await
use Rattle.pm_model.specs.declared.stage.Change.TheVariants as change
use Rattle.pm_model.specs.declared.stage.IdleStage.TheVariants as idle
use Rattle.pm_model.specs.declared.stage.Purpose.TheVariants.{Plain}
use Rattle.pm_model.specs.declared.stage.Stage.TheVariants as stage
use Rattle.pm_model.specs.declared.stage.SuspendStage.{SuspendStage}
use Rattle.pm_model.specs.declared.stage.SuspendStage.TheVariants as suspend
use Rattle.pm_model.specs.declared.stage.Then.{Then}
use Rattle.pm_model.specs.PlanRows.{no_callbacks, has_parent, parent_of, has_domain}
use Rattle.pm_model.specs.Views.{Views, device, pending_of, timer}
use Rattle.pm_model.specs.ChangeViews.{suspend_ended}
use Rattle.pm_model.specs.Derived.{refusal, has, expiry, is_ahead, is_suspending, is_resuming, is_moving, callback_code, down, first_held, first_of}
use Rattle.pm_model.specs.Events.{by_event, is_try_again}
use Rattle.pm_model.specs.Row.{Row, writes, waits, call_returns, idles, suspends, resumes, goes, calls}

abbrev pub suspend_goes : SuspendStage → Then
suspend_goes s = goes (stage.Suspend s)

-- the flags forbid to wait for a transition that is under way
abbrev pub may_not_wait : ℕ → Bool
may_not_wait f = has f ASYNC || has f NOWAIT

-- when an autosuspend is armed for: at the expiry, or where a timer is armed for an earlier moment, then
unfoldable pub autosuspend_at : Views → DevId → ℕ
autosuspend_at v d =
    let at = unwrap_or (expiry v d) 0 in
    option_map_or (λ armed. min at armed.deadline) (timer v d) at

abbrev pub suspend_request : ℕ → Req
suspend_request f = if has f AUTO then req.Autosuspend else req.Suspend

-- S1
unfoldable pub suspend_verdict : Plan → Views → DevId → ℕ → ℕ → Row
suspend_verdict plan v d f t =
    first_of (
    (not (int_eq (refusal plan v d) (pos 0)), call_returns cb.Suspend d (refusal plan v d) change.Same)
    ∷ (is_resuming v d && not (has f ASYNC), call_returns cb.Suspend d EAGAIN change.Same)
    ∷ (
      has f AUTO && not (is_suspending v d) && is_ahead (expiry v d) t,
      writes (event.Timer d (Arm (autosuspend_at v d) true)) (change.CancelRequest d) (suspend_goes (suspend.Done d f (pos 0))),
    )
    ∷ (is_suspending v d && may_not_wait f, call_returns cb.Suspend d EINPROGRESS (change.Cancel d))
    ∷ (is_suspending v d, writes (event.Wait d) (change.Cancel d) (suspend_goes (suspend.Waiting d f)))
    ∷ (no_callbacks plan d, writes (event.State d word.Suspended) (change.Cancel d) (suspend_goes (suspend.Parent d f)))
    ∷ (has f ASYNC, writes (event.Work d (Queue (suspend_request f))) (change.Disarm d) (suspend_goes (suspend.Done d f (pos 0))))
    ∷ []) (writes (event.Begin d cb.Suspend) (change.Cancel d) (suspend_goes (suspend.Running d f t)))

-- S2: where the callback asks to try again and the next expiry is ahead, the tests are made anew
unfoldable pub suspend_ends : Plan → Views → DevId → ℕ → ℕ → Row
suspend_ends plan v d f t =
    let c = callback_code plan v cb.Suspend d in
    let ended = event.End d cb.Suspend c in
    let after = by_event plan t ended (suspend_ended plan d c t v) in
    writes ended (change.SuspendEnded d c)
    (if int_eq c (pos 0) then suspend_goes (suspend.Domain d f)
    else if is_try_again c && has f AUTO && is_ahead (expiry after d) t then suspend_goes (suspend.Verdict d f)
    else suspend_goes (suspend.Done d f c))

-- S4: the held link with the least supplier is given back, until none is held
abbrev pub suspend_gives : Views → DevId → ℕ → Option (ℕ × DevId) → Row
suspend_gives v d f (Some link) = writes (event.Put link.1 (why.Link d)) change.Same (calls (stage.Idle (idle.AfterPut link.1 5)) (await.SuspendLinks d f))
suspend_gives v d f None =
    if (pending_of v d).deferred then writes (event.State d word.Deferred) change.Same (suspend_goes (suspend.Deferred d f))
    else writes (event.State d word.Suspended) change.Same (suspend_goes (suspend.Parent d f))

unfoldable pub suspend_links : Plan → Views → DevId → ℕ → Row
suspend_links plan v d f = suspend_gives v d f (first_held plan v d)

-- S3
unfoldable pub suspend_domain : Plan → Views → DevId → ℕ → Row
suspend_domain plan v d f =
    first_of ((has_domain plan d, writes (event.Domain d false (length (down plan v d))) change.Same (suspend_goes (suspend.Links d f))) ∷ []) (suspend_links plan v d f)

-- d has a parent that counts its children
abbrev pub tells_parent : Plan → Views → DevId → Bool
tells_parent plan v d = has_parent plan d && not (device v (parent_of plan d)).ignores

-- S6
unfoldable pub suspend_parent : Plan → Views → DevId → ℕ → Row
suspend_parent plan v d f =
    first_of ((tells_parent plan v d, idles plan v (parent_of plan d) 1 change.Same (stage.Await (await.SuspendParent d f) ∷ [])) ∷ [])
    (call_returns cb.Suspend d (pos 0) change.Same)

abbrev pub suspend_row : Plan → Views → SuspendStage → ℕ → Row
suspend_row plan v (suspend.Enter d f) t = suspends plan v d f []
suspend_row plan v (suspend.Verdict d f) t = suspend_verdict plan v d f t
suspend_row plan v (suspend.Waiting d f) t = first_of ((is_moving v d, waits d) ∷ []) (suspend_verdict plan v d f t)
suspend_row plan v (suspend.Running d f since) t = suspend_ends plan v d f t
suspend_row plan v (suspend.Domain d f) t = suspend_domain plan v d f
suspend_row plan v (suspend.Links d f) t = suspend_links plan v d f
suspend_row plan v (suspend.Deferred d f) t = resumes plan v d 0 Plain (stage.Await (await.SuspendDeferred d f) ∷ [])
suspend_row plan v (suspend.Parent d f) t = suspend_parent plan v d f
suspend_row plan v (suspend.Done d f c) t = call_returns cb.Suspend d c change.Same
