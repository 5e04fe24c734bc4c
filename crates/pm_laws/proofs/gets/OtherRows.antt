-- The rows of suspend, of idle, of the helpers and of the control functions, while nothing disturbs.
use Rattle.std.proofs.Common.{ℕ, pos, ◌≡◌, Bool, true, false, not, ◌&&◌, Option, Some, None, ℤ, refl}
use Rattle.pm_base.specs.declared.DevId.{DevId}
use Rattle.pm_base.specs.declared.Req.{Req}
use Rattle.pm_base.specs.declared.Req.TheVariants as req
use Rattle.pm_base.specs.declared.codes.TheConstants.{EBUSY}
use Rattle.pm_model.specs.declared.event.Event.{Event}
use Rattle.pm_model.specs.declared.event.Event.TheVariants as event
use Rattle.pm_model.specs.declared.event.Helper.{Helper}
use Rattle.pm_model.specs.declared.event.Helper.TheVariants as helper
use Rattle.pm_model.specs.declared.event.WorkAct.TheVariants.{Run}
use Rattle.pm_model.specs.declared.plan.Plan.{Plan}
use Rattle.pm_model.specs.declared.stage.Change.{Change}
use Rattle.pm_model.specs.declared.stage.Change.TheVariants as change
use Rattle.pm_model.specs.declared.stage.ControlStage.{ControlStage}
use Rattle.pm_model.specs.declared.stage.ControlStage.TheVariants as control
use Rattle.pm_model.specs.declared.stage.HelperStage.{HelperStage}
use Rattle.pm_model.specs.declared.stage.HelperStage.TheVariants as at
use Rattle.pm_model.specs.declared.stage.IdleStage.{IdleStage}
use Rattle.pm_model.specs.declared.stage.IdleStage.TheVariants as idle
use Rattle.pm_model.specs.declared.stage.Stage.{Stage}
use Rattle.pm_model.specs.declared.stage.Stage.TheVariants as stage
use Rattle.pm_model.specs.declared.stage.SuspendStage.{SuspendStage}
use Rattle.pm_model.specs.declared.stage.SuspendStage.TheVariants as suspend
use Rattle.pm_model.specs.declared.stage.Then.{Then}
use Rattle.pm_model.specs.ControlTable.{enabling, barrier_idles, barrier_resumes, barrier_ends, active_starts, active_gives, active_unwinds, active_takes, active_links, suspended_starts, tells_supplier, suppliers_idle, forbidding, allowing, sets, schedules, link_adds, link_dels, control_starts, control_row}
use Rattle.pm_model.specs.Derived.{has_error, is_active, is_disabled, awaits_parent, first_held, first_free, next_supplier}
use Rattle.pm_model.specs.HelperTable.{begins, helper_starts, put_suspends, carries_out, timer_fires, helper_row}
use Rattle.pm_model.specs.IdleTable.{idle_verdict, idle_ends, after_put, idle_row}
use Rattle.pm_model.specs.Counted.{is_same}
use Rattle.pm_model.specs.Promises.{implies}
use Rattle.pm_model.specs.Row.{Row, writes, helper_returns}
use Rattle.pm_model.specs.SuspendTable.{suspend_verdict, suspend_ends, suspend_gives, suspend_links, suspend_domain, suspend_parent, suspend_row}
use Rattle.pm_model.specs.Views.{Views, pending_of}
use Rattle.pm_model.specs.World.{row}
use Rattle.pm_laws.proofs.counts.HelperRows.{command}
use Rattle.pm_laws.specs.stacks.Shape.{Fits, is_put_suspend}
use Rattle.pm_laws.proofs.stacks.Obeying.{Obeys, waiting, both, both_next}
use Rattle.pm_laws.proofs.stacks.Stacks.{obeys_same}
use Rattle.pm_laws.proofs.safe.Steps.{differ}
use Rattle.pm_laws.specs.safe.Pends.{is_up}
use Rattle.pm_laws.proofs.gets.Passing.{tells}
use Rattle.pm_laws.specs.gets.Answered.{is_get_sync}
use Rattle.pm_laws.specs.gets.Undisturbed.{is_disable, fits, needs_up, needs_enabled, is_bad, ends_badly, brings_up, no_end}
use Rattle.pm_laws.proofs.gets.Calmly.{Calmly, is_disabling, is_told, returns_badly, quiet, loud, is_call_stage}
use Rattle.pm_laws.proofs.gets.ResumeRows.{resume_calm}

abbrev Calms : Plan → DevId → Bool → Views → Stage → Row → Type 0
Calms plan x enabled v s row = Obeys (Calmly plan x enabled v s) row

-- a call line stands at an empty place
begun : {plan : Plan} {x : DevId} {enabled : Bool} {v : Views} {s : Stage} {e : Event} {change : Change} {next : Then}
    → tells (is_bad plan x enabled) (ends_badly x enabled) s next ≡ false → ((d : DevId) → tells (needs_up plan d) (brings_up d) s next ≡ false)
    → ((d : DevId) → tells (needs_enabled d) no_end s next ≡ false) → is_disabling change ≡ false → is_call_stage s ≡ true → returns_badly x enabled e ≡ false
    → Obeys (Calmly plan x enabled v s) (writes e change next)
begun good up ready stays called well =
    record { paid = λ _. record { good = good; up = λ d t. differ t (up d); ready = λ d t. differ t (ready d); stays = stays; called = λ _. called; well = λ b. differ b well } }

-- a helper that isn't get_sync may return 0
zero_told : (x : DevId) (enabled : Bool) (h : Helper) (d : DevId) → is_told x enabled (event.Ret h d (pos 0)) ≡ false
zero_told x enabled h d = go (is_get_sync h && is_same x d && enabled)
  where
    go : (b : Bool) → not (implies b (is_up (pos 0))) ≡ false
    go true = refl
    go false = refl

-- suspend
suspend_verdict_calm : (plan : Plan) (x : DevId) (enabled : Bool) (v : Views) (t : ℕ) (d : DevId) (f : ℕ) → Calms plan x enabled v (stage.Suspend (suspend.Verdict d f)) (suspend_verdict plan v d f t)
unfolding suspend_verdict
suspend_verdict_calm plan x enabled v t d f = search (both, quiet) depth 24

suspend_waits_calm : (plan : Plan) (x : DevId) (enabled : Bool) (v : Views) (t : ℕ) (d : DevId) (f : ℕ) → Calms plan x enabled v (stage.Suspend (suspend.Waiting d f)) (suspend_verdict plan v d f t)
unfolding suspend_verdict
suspend_waits_calm plan x enabled v t d f = search (both, quiet) depth 24

suspend_gives_calm : (plan : Plan) (x : DevId) (enabled : Bool) (v : Views) (d : DevId) (f : ℕ) (s : Stage) (o : Option (ℕ × DevId)) → Calms plan x enabled v s (suspend_gives v d f o)
suspend_gives_calm plan x enabled v d f s (Some link) = quiet refl (λ _. refl) (λ _. refl) refl refl
suspend_gives_calm plan x enabled v d f s None = search (both, quiet) depth 12

suspend_links_calm : (plan : Plan) (x : DevId) (enabled : Bool) (v : Views) (d : DevId) (f : ℕ) (s : Stage) → Calms plan x enabled v s (suspend_links plan v d f)
unfolding suspend_links
suspend_links_calm plan x enabled v d f s = suspend_gives_calm plan x enabled v d f s (first_held plan v d)

suspend_domain_calm : (plan : Plan) (x : DevId) (enabled : Bool) (v : Views) (d : DevId) (f : ℕ) (s : Stage) → Calms plan x enabled v s (suspend_domain plan v d f)
unfolding suspend_domain
suspend_domain_calm plan x enabled v d f s = search (both, quiet, suspend_links_calm) depth 12

suspend_parent_calm : (plan : Plan) (x : DevId) (enabled : Bool) (v : Views) (d : DevId) (f : ℕ) → Calms plan x enabled v (stage.Suspend (suspend.Parent d f)) (suspend_parent plan v d f)
unfolding suspend_parent
suspend_parent_calm plan x enabled v d f = search (both, quiet) depth 12

suspend_ends_calm : (plan : Plan) (x : DevId) (enabled : Bool) (v : Views) (t : ℕ) (d : DevId) (f since : ℕ) → Calms plan x enabled v (stage.Suspend (suspend.Running d f since)) (suspend_ends plan v d f t)
unfolding suspend_ends
suspend_ends_calm plan x enabled v t d f since = search (both_next, quiet) depth 12

suspend_calm : (plan : Plan) (x : DevId) (enabled : Bool) (v : Views) (t : ℕ) (s : SuspendStage) → Calms plan x enabled v (stage.Suspend s) (suspend_row plan v s t)
suspend_calm plan x enabled v t (suspend.Enter d f) = quiet refl (λ _. refl) (λ _. refl) refl refl
suspend_calm plan x enabled v t (suspend.Verdict d f) = suspend_verdict_calm plan x enabled v t d f
suspend_calm plan x enabled v t (suspend.Waiting d f) = both _ waiting (suspend_waits_calm plan x enabled v t d f)
suspend_calm plan x enabled v t (suspend.Running d f since) = suspend_ends_calm plan x enabled v t d f since
suspend_calm plan x enabled v t (suspend.Domain d f) = suspend_domain_calm plan x enabled v d f _
suspend_calm plan x enabled v t (suspend.Links d f) = suspend_links_calm plan x enabled v d f _
suspend_calm plan x enabled v t (suspend.Deferred d f) = quiet refl (λ _. refl) (λ _. refl) refl refl
suspend_calm plan x enabled v t (suspend.Parent d f) = suspend_parent_calm plan x enabled v d f
suspend_calm plan x enabled v t (suspend.Done d f c) = quiet refl (λ _. refl) (λ _. refl) refl refl

-- idle
idle_verdict_calm : (plan : Plan) (x : DevId) (enabled : Bool) (v : Views) (t : ℕ) (d : DevId) (f : ℕ) → Calms plan x enabled v (stage.Idle (idle.Verdict d f)) (idle_verdict plan v d f t)
unfolding idle_verdict
idle_verdict_calm plan x enabled v t d f = search (both, quiet) depth 24

idle_ends_calm : (plan : Plan) (x : DevId) (enabled : Bool) (v : Views) (t : ℕ) (d : DevId) (f since : ℕ) → Calms plan x enabled v (stage.Idle (idle.Running d f since)) (idle_ends plan v d f t)
unfolding idle_ends
idle_ends_calm plan x enabled v t d f since = quiet refl (λ _. refl) (λ _. refl) refl refl

after_put_calm : (plan : Plan) (x : DevId) (enabled : Bool) (v : Views) (d : DevId) (f : ℕ) → Calms plan x enabled v (stage.Idle (idle.AfterPut d f)) (after_put plan v d f)
unfolding after_put
after_put_calm plan x enabled v d f = search (both, quiet) depth 12

idle_calm : (plan : Plan) (x : DevId) (enabled : Bool) (v : Views) (t : ℕ) (s : IdleStage) → Calms plan x enabled v (stage.Idle s) (idle_row plan v s t)
idle_calm plan x enabled v t (idle.Enter d f) = quiet refl (λ _. refl) (λ _. refl) refl refl
idle_calm plan x enabled v t (idle.Verdict d f) = idle_verdict_calm plan x enabled v t d f
idle_calm plan x enabled v t (idle.Running d f since) = idle_ends_calm plan x enabled v t d f since
idle_calm plan x enabled v t (idle.Done d f c) = search (both_next, quiet) depth 12
idle_calm plan x enabled v t (idle.Queued d f) = quiet refl (λ _. refl) (λ _. refl) refl refl
idle_calm plan x enabled v t (idle.AfterPut d f) = after_put_calm plan x enabled v d f

-- helpers
calls_calm : (plan : Plan) (x : DevId) (enabled : Bool) (v : Views) (t : ℕ) (h : Helper) (d : DevId) (n : ℤ) → Calms plan x enabled v (stage.Helper (at.Call (command h d n))) (writes (event.Call (command h d n)) change.Same (begins (command h d n) t))
calls_calm plan x enabled v t helper.Disable d n = loud refl
calls_calm plan x enabled v t _ d n = begun refl (λ _. refl) (λ _. refl) refl refl refl

works_calm : (plan : Plan) (x : DevId) (enabled : Bool) (v : Views) (d : DevId) (r : Req) → Calms plan x enabled v (stage.Helper (at.Work d)) (writes (event.Work d (Run r)) change.Same (carries_out d r))
works_calm plan x enabled v d req.Nothing = quiet refl (λ _. refl) (λ _. refl) refl refl
works_calm plan x enabled v d _ = quiet refl (λ _. refl) (λ _. refl) refl refl

fires_calm : (plan : Plan) (x : DevId) (enabled : Bool) (v : Views) (d : DevId) → Calms plan x enabled v (stage.Helper (at.Timer d)) (timer_fires v d)
unfolding timer_fires
fires_calm plan x enabled v d = quiet refl (λ _. refl) (λ _. refl) refl refl

helper_starts_calm : (plan : Plan) (x : DevId) (enabled : Bool) (v : Views) (h : Helper) (d : DevId) (n : ℤ) → Calms plan x enabled v (stage.Helper (at.Start (command h d n))) (helper_starts v (command h d n))
unfolding helper_starts
helper_starts_calm plan x enabled v helper.GetSync d n = quiet refl (λ _. refl) (λ _. refl) refl refl
helper_starts_calm plan x enabled v _ d n = search (both, quiet) depth 12

-- a put that goes on to suspend is no get_sync
put_suspends_calm : (plan : Plan) (x : DevId) (enabled : Bool) (v : Views) (h : Helper) (d : DevId) (n : ℤ) → is_put_suspend h ≡ true → Calms plan x enabled v (stage.Helper (at.PutSuspends (command h d n))) (put_suspends plan v (command h d n))
unfolding put_suspends
put_suspends_calm plan x enabled v helper.GetSync d n put = cc
put_suspends_calm plan x enabled v _ d n put = search (both, quiet) depth 12

ret_calm : (plan : Plan) (x : DevId) (enabled : Bool) (v : Views) (h : Helper) (d : DevId) (c : ℤ) → Calms plan x enabled v (stage.Helper (at.Ret h d c)) (helper_returns h d c change.Same)
ret_calm plan x enabled v h d c =
    record { paid = λ _. record { good = refl; up = λ y t. cc; ready = λ y t. cc; stays = refl; called = λ t. cc; well = λ b. b } }

helper_calm : (plan : Plan) (x : DevId) (enabled : Bool) (v : Views) (t : ℕ) (s : HelperStage) → Fits plan (stage.Helper s) → Calms plan x enabled v (stage.Helper s) (helper_row plan v s t)
helper_calm plan x enabled v t (at.Call c) holds = calls_calm plan x enabled v t c.helper c.dev c.number
helper_calm plan x enabled v t (at.Work d) holds = works_calm plan x enabled v d (pending_of v d).request
helper_calm plan x enabled v t (at.Timer d) holds = fires_calm plan x enabled v d
helper_calm plan x enabled v t (at.Start c) holds = helper_starts_calm plan x enabled v c.helper c.dev c.number
helper_calm plan x enabled v t (at.PutSuspends c) holds = put_suspends_calm plan x enabled v c.helper c.dev c.number holds
helper_calm plan x enabled v t (at.Delay ms since) holds = quiet refl (λ _. refl) (λ _. refl) refl refl
helper_calm plan x enabled v t (at.Ret h d c) holds = ret_calm plan x enabled v h d c

-- the control functions
barrier_idles_calm : (plan : Plan) (x : DevId) (enabled : Bool) (v : Views) (d : DevId) (c : ℤ) (s : Stage) → Calms plan x enabled v s (barrier_idles v d c)
unfolding barrier_idles
barrier_idles_calm plan x enabled v d c s = search (both, quiet) depth 12

barrier_resumes_calm : (plan : Plan) (x : DevId) (enabled : Bool) (v : Views) (d : DevId) (s : Stage) → Calms plan x enabled v s (barrier_resumes plan v d)
unfolding barrier_resumes
barrier_resumes_calm plan x enabled v d s = search (both, quiet, barrier_idles_calm) depth 12

barrier_ends_calm : (plan : Plan) (x : DevId) (enabled : Bool) (v : Views) (d : DevId) (c : ℤ) (s : Stage) → Calms plan x enabled v s (barrier_ends v d c)
unfolding barrier_ends
barrier_ends_calm plan x enabled v d c s = search (both, waiting, quiet) depth 12

active_gives_calm : (plan : Plan) (x : DevId) (enabled : Bool) (v : Views) (d : DevId) (c : ℤ) (s : Stage) (o : Option (ℕ × DevId)) → Calms plan x enabled v s (active_gives d c o)
active_gives_calm plan x enabled v d c s (Some link) = quiet refl (λ _. refl) (λ _. refl) refl refl
active_gives_calm plan x enabled v d c s None = quiet refl (λ _. refl) (λ _. refl) refl refl

active_unwinds_calm : (plan : Plan) (x : DevId) (enabled : Bool) (v : Views) (d : DevId) (c : ℤ) (s : Stage) → Calms plan x enabled v s (active_unwinds plan v d c)
unfolding active_unwinds
active_unwinds_calm plan x enabled v d c s = active_gives_calm plan x enabled v d c s (first_held plan v d)

active_takes_calm : (plan : Plan) (x : DevId) (enabled : Bool) (v : Views) (d : DevId) (s : Stage) (o : Option (ℕ × DevId)) → Calms plan x enabled v s (active_takes plan v d o)
active_takes_calm plan x enabled v d s (Some link) = quiet refl (λ _. refl) (λ _. refl) refl refl
active_takes_calm plan x enabled v d s None = both (awaits_parent plan v d) (active_unwinds_calm plan x enabled v d EBUSY s) (quiet refl (λ _. refl) (λ _. refl) refl refl)

active_links_calm : (plan : Plan) (x : DevId) (enabled : Bool) (v : Views) (d : DevId) (s : Stage) → Calms plan x enabled v s (active_links plan v d)
unfolding active_links
active_links_calm plan x enabled v d s = active_takes_calm plan x enabled v d s (first_free plan v d)

tells_calm : (plan : Plan) (x : DevId) (enabled : Bool) (v : Views) (d : DevId) (last : Option DevId) (o : Option (ℕ × DevId)) → Calms plan x enabled v (stage.Control (control.SuppliersIdle d last)) (tells_supplier plan v d o)
tells_calm plan x enabled v d last (Some link) = quiet refl (λ _. refl) (λ _. refl) refl refl
tells_calm plan x enabled v d last None = search (both, quiet) depth 12

suppliers_calm : (plan : Plan) (x : DevId) (enabled : Bool) (v : Views) (d : DevId) (last : Option DevId) → Calms plan x enabled v (stage.Control (control.SuppliersIdle d last)) (suppliers_idle plan v d last)
unfolding suppliers_idle
suppliers_calm plan x enabled v d last = tells_calm plan x enabled v d last (next_supplier plan v d last)

control_starts_calm : (plan : Plan) (x : DevId) (enabled : Bool) (v : Views) (t : ℕ) (h : Helper) (d : DevId) (n : ℤ) → not (is_disable h) ≡ true
    → Calms plan x enabled v (stage.Control (control.Start (command h d n))) (control_starts plan v (command h d n) t)
unfolding control_starts schedules enabling active_starts suspended_starts allowing forbidding sets link_adds link_dels
control_starts_calm plan x enabled v t helper.Disable d n apart = cc
control_starts_calm plan x enabled v t _ d n apart = search (both, quiet, zero_told) depth 16

control_calm : (plan : Plan) (x : DevId) (enabled : Bool) (v : Views) (t : ℕ) (s : ControlStage) → fits plan x enabled (stage.Control s) ≡ true → Calms plan x enabled v (stage.Control s) (control_row plan v s t)
control_calm plan x enabled v t (control.Start c) fit = control_starts_calm plan x enabled v t c.helper c.dev c.number fit
control_calm plan x enabled v t (control.DisablePut d) fit = cc
control_calm plan x enabled v t (control.Disable d) fit = cc
control_calm plan x enabled v t (control.Disabled d) fit = cc
control_calm plan x enabled v t (control.BarrierResume d) fit = barrier_resumes_calm plan x enabled v d _
control_calm plan x enabled v t (control.BarrierIdle d c) fit = barrier_idles_calm plan x enabled v d c _
control_calm plan x enabled v t (control.BarrierWait d c) fit = barrier_ends_calm plan x enabled v d c _
control_calm plan x enabled v t (control.ActiveLinks d) fit = active_links_calm plan x enabled v d _
control_calm plan x enabled v t (control.ActiveUnwind d c) fit = active_unwinds_calm plan x enabled v d c _
control_calm plan x enabled v t (control.SuppliersIdle d last) fit = suppliers_calm plan x enabled v d last

pub row_calm : (plan : Plan) (x : DevId) (enabled : Bool) (v : Views) (t : ℕ) (s : Stage) (r : Row) → Fits plan s → fits plan x enabled s ≡ true
    → ((d : DevId) → has_error v d ≡ false) → ((d : DevId) → needs_up plan d s ≡ true → is_active v d ≡ true)
    → ((d : DevId) → needs_enabled d s ≡ true → is_disabled v d ≡ false) → (enabled ≡ true → is_disabled v x ≡ false)
    → row plan v s t ≡ Some r → Obeys (Calmly plan x enabled v s) r
row_calm plan x enabled v t (stage.Idle s) r holds fit errors ups opens now e = obeys_same _ _ r e (idle_calm plan x enabled v t s)
row_calm plan x enabled v t (stage.Suspend s) r holds fit errors ups opens now e = obeys_same _ _ r e (suspend_calm plan x enabled v t s)
row_calm plan x enabled v t (stage.Resume s) r holds fit errors ups opens now e = obeys_same _ _ r e (resume_calm plan x enabled v t s fit errors ups opens now)
row_calm plan x enabled v t (stage.Helper s) r holds fit errors ups opens now e = obeys_same _ _ r e (helper_calm plan x enabled v t s holds)
row_calm plan x enabled v t (stage.Control s) r holds fit errors ups opens now e = obeys_same _ _ r e (control_calm plan x enabled v t s fit)
row_calm plan x enabled v t (stage.Await s) r holds fit errors ups opens now e = cc
