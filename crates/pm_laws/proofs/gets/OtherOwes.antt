-- The rows of suspend, of idle, of the helpers and of the control functions.
use Rattle.std.proofs.Common.{ℕ, ◌≡◌, true, false, Option, Some, None, ℤ, refl}
use Rattle.pm_base.specs.declared.DevId.{DevId}
use Rattle.pm_base.specs.declared.Req.{Req}
use Rattle.pm_base.specs.declared.Req.TheVariants as req
use Rattle.pm_base.specs.declared.codes.TheConstants.{EBUSY}
use Rattle.pm_model.specs.declared.event.Event.TheVariants as event
use Rattle.pm_model.specs.declared.event.Helper.{Helper}
use Rattle.pm_model.specs.declared.event.Helper.TheVariants as helper
use Rattle.pm_model.specs.declared.event.WorkAct.TheVariants.{Run}
use Rattle.pm_model.specs.declared.plan.Plan.{Plan}
use Rattle.pm_model.specs.declared.stage.Change.TheVariants as change
use Rattle.pm_model.specs.declared.stage.ControlStage.{ControlStage}
use Rattle.pm_model.specs.declared.stage.ControlStage.TheVariants as control
use Rattle.pm_model.specs.declared.stage.HelperStage.{HelperStage}
use Rattle.pm_model.specs.declared.stage.HelperStage.TheVariants as at
use Rattle.pm_model.specs.declared.stage.IdleStage.{IdleStage}
use Rattle.pm_model.specs.declared.stage.IdleStage.TheVariants as idle
use Rattle.pm_model.specs.declared.stage.Stage.{Stage}
use Rattle.pm_model.specs.declared.stage.Stage.TheVariants as stage
use Rattle.pm_model.specs.declared.stage.SuspendStage.{SuspendStage}
use Rattle.pm_model.specs.declared.stage.SuspendStage.TheVariants as suspend
use Rattle.pm_model.specs.ControlTable.{enabling, disabling, disable_starts, disable_ends, barrier_idles, barrier_resumes, barrier_ends, active_starts, active_gives, active_unwinds, active_takes, active_links, suspended_starts, tells_supplier, suppliers_idle, forbidding, allowing, sets, schedules, link_adds, link_dels, control_starts, control_row}
use Rattle.pm_model.specs.Derived.{awaits_parent, first_held, first_free, next_supplier}
use Rattle.pm_model.specs.HelperTable.{begins, helper_starts, put_suspends, carries_out, timer_fires, helper_row}
use Rattle.pm_model.specs.IdleTable.{idle_verdict, idle_ends, after_put, idle_row}
use Rattle.pm_model.specs.Row.{Row, writes, helper_returns}
use Rattle.pm_model.specs.SuspendTable.{suspend_verdict, suspend_ends, suspend_gives, suspend_links, suspend_domain, suspend_parent, suspend_row}
use Rattle.pm_model.specs.Views.{Views, pending_of}
use Rattle.pm_model.specs.World.{row}
use Rattle.pm_laws.proofs.counts.HelperRows.{command}
use Rattle.pm_laws.specs.stacks.Shape.{Fits, returns_resume, is_put_suspend}
use Rattle.pm_laws.proofs.stacks.Obeying.{Obeys, waiting, both, both_next}
use Rattle.pm_laws.proofs.stacks.Stacks.{obeys_same}
use Rattle.pm_laws.proofs.gets.Owing.{Owing, silent, starts, alike}
use Rattle.pm_laws.proofs.gets.ResumeOwes.{resume_owes}

abbrev Owes : Views → Stage → Row → Type 0
Owes v s row = Obeys (Owing v s) row

-- suspend
suspend_verdict_owes : (plan : Plan) (v : Views) (t : ℕ) (d : DevId) (f : ℕ) → Owes v (stage.Suspend (suspend.Verdict d f)) (suspend_verdict plan v d f t)
unfolding suspend_verdict
suspend_verdict_owes plan v t d f = search (both, silent) depth 24

suspend_gives_owe : (v : Views) (d : DevId) (f : ℕ) (s : Stage) (o : Option (ℕ × DevId)) → Owes v s (suspend_gives v d f o)
suspend_gives_owe v d f s (Some link) = silent refl refl (λ _. refl)
suspend_gives_owe v d f s None = search (both, silent) depth 12

suspend_links_owe : (plan : Plan) (v : Views) (d : DevId) (f : ℕ) (s : Stage) → Owes v s (suspend_links plan v d f)
unfolding suspend_links
suspend_links_owe plan v d f s = suspend_gives_owe v d f s (first_held plan v d)

suspend_domain_owes : (plan : Plan) (v : Views) (d : DevId) (f : ℕ) (s : Stage) → Owes v s (suspend_domain plan v d f)
unfolding suspend_domain
suspend_domain_owes plan v d f s = search (both, silent, suspend_links_owe) depth 12

suspend_parent_owes : (plan : Plan) (v : Views) (d : DevId) (f : ℕ) → Owes v (stage.Suspend (suspend.Parent d f)) (suspend_parent plan v d f)
unfolding suspend_parent
suspend_parent_owes plan v d f = search (both, silent) depth 12

suspend_ends_owe : (plan : Plan) (v : Views) (t : ℕ) (d : DevId) (f since : ℕ) → Owes v (stage.Suspend (suspend.Running d f since)) (suspend_ends plan v d f t)
unfolding suspend_ends
suspend_ends_owe plan v t d f since = search (both_next, silent) depth 12

suspend_owes : (plan : Plan) (v : Views) (t : ℕ) (s : SuspendStage) → Owes v (stage.Suspend s) (suspend_row plan v s t)
suspend_owes plan v t (suspend.Enter d f) = silent refl refl (λ _. refl)
suspend_owes plan v t (suspend.Verdict d f) = suspend_verdict_owes plan v t d f
suspend_owes plan v t (suspend.Waiting d f) = both _ waiting (alike (stage.Suspend (suspend.Verdict d f)) refl refl (λ _. refl) (suspend_verdict_owes plan v t d f))
suspend_owes plan v t (suspend.Running d f since) = suspend_ends_owe plan v t d f since
suspend_owes plan v t (suspend.Domain d f) = suspend_domain_owes plan v d f _
suspend_owes plan v t (suspend.Links d f) = suspend_links_owe plan v d f _
suspend_owes plan v t (suspend.Deferred d f) = silent refl refl (λ _. refl)
suspend_owes plan v t (suspend.Parent d f) = suspend_parent_owes plan v d f
suspend_owes plan v t (suspend.Done d f c) = silent refl refl (λ _. refl)

-- idle
idle_verdict_owes : (plan : Plan) (v : Views) (t : ℕ) (d : DevId) (f : ℕ) → Owes v (stage.Idle (idle.Verdict d f)) (idle_verdict plan v d f t)
unfolding idle_verdict
idle_verdict_owes plan v t d f = search (both, silent) depth 24

idle_ends_owe : (plan : Plan) (v : Views) (t : ℕ) (d : DevId) (f since : ℕ) → Owes v (stage.Idle (idle.Running d f since)) (idle_ends plan v d f t)
unfolding idle_ends
idle_ends_owe plan v t d f since = silent refl refl (λ _. refl)

after_put_owes : (plan : Plan) (v : Views) (d : DevId) (f : ℕ) → Owes v (stage.Idle (idle.AfterPut d f)) (after_put plan v d f)
unfolding after_put
after_put_owes plan v d f = search (both, silent) depth 12

idle_owes : (plan : Plan) (v : Views) (t : ℕ) (s : IdleStage) → Owes v (stage.Idle s) (idle_row plan v s t)
idle_owes plan v t (idle.Enter d f) = silent refl refl (λ _. refl)
idle_owes plan v t (idle.Verdict d f) = idle_verdict_owes plan v t d f
idle_owes plan v t (idle.Running d f since) = idle_ends_owe plan v t d f since
idle_owes plan v t (idle.Done d f c) = search (both_next, silent) depth 12
idle_owes plan v t (idle.Queued d f) = silent refl refl (λ _. refl)
idle_owes plan v t (idle.AfterPut d f) = after_put_owes plan v d f

-- helpers
calls_owe : (v : Views) (t : ℕ) (h : Helper) (d : DevId) (n : ℤ) → Owes v (stage.Helper (at.Call (command h d n))) (writes (event.Call (command h d n)) change.Same (begins (command h d n) t))
calls_owe v t helper.Resume d n = silent refl refl (λ _. refl)
calls_owe v t _ d n = silent refl refl (λ _. refl)

works_owe : (v : Views) (d : DevId) (r : Req) → Owes v (stage.Helper (at.Work d)) (writes (event.Work d (Run r)) change.Same (carries_out d r))
works_owe v d req.Nothing = silent refl refl (λ _. refl)
works_owe v d _ = silent refl refl (λ _. refl)

fires_owe : (v : Views) (d : DevId) → Owes v (stage.Helper (at.Timer d)) (timer_fires v d)
unfolding timer_fires
fires_owe v d = silent refl refl (λ _. refl)

helper_starts_owe : (v : Views) (h : Helper) (d : DevId) (n : ℤ) → Owes v (stage.Helper (at.Start (command h d n))) (helper_starts v (command h d n))
unfolding helper_starts
helper_starts_owe v helper.GetSync d n = starts refl refl (λ _. refl)
helper_starts_owe v _ d n = search (both, silent, starts) depth 12

-- a put that goes on to suspend is no get_sync
put_suspends_owe : (plan : Plan) (v : Views) (h : Helper) (d : DevId) (n : ℤ) → is_put_suspend h ≡ true → Owes v (stage.Helper (at.PutSuspends (command h d n))) (put_suspends plan v (command h d n))
unfolding put_suspends
put_suspends_owe plan v helper.GetSync d n put = cc
put_suspends_owe plan v _ d n put = search (both, silent) depth 12

ret_owes : (v : Views) (h : Helper) (d : DevId) (c : ℤ) → Owes v (stage.Helper (at.Ret h d c)) (helper_returns h d c change.Same)
ret_owes v h d c = record { paid = record { told = λ x t. cc; taken = λ t. cc; returned = λ x good. good } }

helper_owes : (plan : Plan) (v : Views) (t : ℕ) (s : HelperStage) → Fits plan (stage.Helper s) → Owes v (stage.Helper s) (helper_row plan v s t)
helper_owes plan v t (at.Call c) fits = calls_owe v t c.helper c.dev c.number
helper_owes plan v t (at.Work d) fits = works_owe v d (pending_of v d).request
helper_owes plan v t (at.Timer d) fits = fires_owe v d
helper_owes plan v t (at.Start c) fits = helper_starts_owe v c.helper c.dev c.number
helper_owes plan v t (at.PutSuspends c) fits = put_suspends_owe plan v c.helper c.dev c.number fits
helper_owes plan v t (at.Delay ms since) fits = silent refl refl (λ _. refl)
helper_owes plan v t (at.Ret h d c) fits = ret_owes v h d c

-- the control functions
disabling_owes : (v : Views) (d : DevId) → Owes v (stage.Control (control.Disable d)) (disabling v d)
unfolding disabling
disabling_owes v d = search (both, silent) depth 12

disable_ends_owe : (v : Views) (d : DevId) → Owes v (stage.Control (control.Disabled d)) (disable_ends v d)
unfolding disable_ends
disable_ends_owe v d = search (both, waiting, silent) depth 12

barrier_idles_owe : (v : Views) (d : DevId) (c : ℤ) (s : Stage) → Owes v s (barrier_idles v d c)
unfolding barrier_idles
barrier_idles_owe v d c s = search (both, silent) depth 12

barrier_resumes_owe : (plan : Plan) (v : Views) (d : DevId) (s : Stage) → Owes v s (barrier_resumes plan v d)
unfolding barrier_resumes
barrier_resumes_owe plan v d s = search (both, silent, barrier_idles_owe) depth 12

barrier_ends_owe : (v : Views) (d : DevId) (c : ℤ) (s : Stage) → Owes v s (barrier_ends v d c)
unfolding barrier_ends
barrier_ends_owe v d c s = search (both, waiting, silent) depth 12

active_gives_owe : (v : Views) (d : DevId) (c : ℤ) (s : Stage) (o : Option (ℕ × DevId)) → Owes v s (active_gives d c o)
active_gives_owe v d c s (Some link) = silent refl refl (λ _. refl)
active_gives_owe v d c s None = silent refl refl (λ _. refl)

active_unwinds_owe : (plan : Plan) (v : Views) (d : DevId) (c : ℤ) (s : Stage) → Owes v s (active_unwinds plan v d c)
unfolding active_unwinds
active_unwinds_owe plan v d c s = active_gives_owe v d c s (first_held plan v d)

active_takes_owe : (plan : Plan) (v : Views) (d : DevId) (s : Stage) (o : Option (ℕ × DevId)) → Owes v s (active_takes plan v d o)
active_takes_owe plan v d s (Some link) = silent refl refl (λ _. refl)
active_takes_owe plan v d s None = both (awaits_parent plan v d) (active_unwinds_owe plan v d EBUSY s) (silent refl refl (λ _. refl))

active_links_owe : (plan : Plan) (v : Views) (d : DevId) (s : Stage) → Owes v s (active_links plan v d)
unfolding active_links
active_links_owe plan v d s = active_takes_owe plan v d s (first_free plan v d)

tells_owe : (plan : Plan) (v : Views) (d : DevId) (last : Option DevId) (o : Option (ℕ × DevId)) → Owes v (stage.Control (control.SuppliersIdle d last)) (tells_supplier plan v d o)
tells_owe plan v d last (Some link) = silent refl refl (λ _. refl)
tells_owe plan v d last None = search (both, silent) depth 12

suppliers_owe : (plan : Plan) (v : Views) (d : DevId) (last : Option DevId) → Owes v (stage.Control (control.SuppliersIdle d last)) (suppliers_idle plan v d last)
unfolding suppliers_idle
suppliers_owe plan v d last = tells_owe plan v d last (next_supplier plan v d last)

control_starts_owe : (plan : Plan) (v : Views) (t : ℕ) (h : Helper) (d : DevId) (n : ℤ) → returns_resume h ≡ false
    → Owes v (stage.Control (control.Start (command h d n))) (control_starts plan v (command h d n) t)
unfolding control_starts schedules enabling disable_starts disabling active_starts suspended_starts allowing forbidding sets link_adds link_dels
control_starts_owe plan v t helper.GetSync d n apart = cc
control_starts_owe plan v t _ d n apart = search (both, silent) depth 16

control_owes : (plan : Plan) (v : Views) (t : ℕ) (s : ControlStage) → Fits plan (stage.Control s) → Owes v (stage.Control s) (control_row plan v s t)
control_owes plan v t (control.Start c) fits = control_starts_owe plan v t c.helper c.dev c.number fits
control_owes plan v t (control.DisablePut d) fits = silent refl refl (λ _. refl)
control_owes plan v t (control.Disable d) fits = disabling_owes v d
control_owes plan v t (control.Disabled d) fits = disable_ends_owe v d
control_owes plan v t (control.BarrierResume d) fits = barrier_resumes_owe plan v d _
control_owes plan v t (control.BarrierIdle d c) fits = barrier_idles_owe v d c _
control_owes plan v t (control.BarrierWait d c) fits = barrier_ends_owe v d c _
control_owes plan v t (control.ActiveLinks d) fits = active_links_owe plan v d _
control_owes plan v t (control.ActiveUnwind d c) fits = active_unwinds_owe plan v d c _
control_owes plan v t (control.SuppliersIdle d last) fits = suppliers_owe plan v d last

pub row_owes : (plan : Plan) (v : Views) (t : ℕ) (s : Stage) (r : Row) → Fits plan s → row plan v s t ≡ Some r → Obeys (Owing v s) r
row_owes plan v t (stage.Idle s) r fits e = obeys_same _ _ r e (idle_owes plan v t s)
row_owes plan v t (stage.Suspend s) r fits e = obeys_same _ _ r e (suspend_owes plan v t s)
row_owes plan v t (stage.Resume s) r fits e = obeys_same _ _ r e (resume_owes plan v t s fits)
row_owes plan v t (stage.Helper s) r fits e = obeys_same _ _ r e (helper_owes plan v t s fits)
row_owes plan v t (stage.Control s) r fits e = obeys_same _ _ r e (control_owes plan v t s fits)
row_owes plan v t (stage.Await s) r fits e = cc
