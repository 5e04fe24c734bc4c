-- Each row of the call table that names a change of whether a device ignores its children is the return of a call of that
-- device.
use Rattle.std.proofs.Common.{ℕ, ◌≡◌, Option, Some, None, ℤ, subst}
use Rattle.pm_base.specs.declared.DevId.{DevId}
use Rattle.pm_base.specs.declared.Req.{Req}
use Rattle.pm_base.specs.declared.Req.TheVariants as req
use Rattle.pm_model.specs.declared.event.Event.TheVariants as event
use Rattle.pm_model.specs.declared.event.Helper.{Helper}
use Rattle.pm_model.specs.declared.event.Helper.TheVariants as helper
use Rattle.pm_model.specs.declared.event.WorkAct.TheVariants.{Run}
use Rattle.pm_model.specs.declared.plan.Plan.{Plan}
use Rattle.pm_model.specs.declared.stage.Change.TheVariants as change
use Rattle.pm_model.specs.declared.stage.ControlStage.{ControlStage}
use Rattle.pm_model.specs.declared.stage.ControlStage.TheVariants as control
use Rattle.pm_model.specs.declared.stage.HelperStage.{HelperStage}
use Rattle.pm_model.specs.declared.stage.HelperStage.TheVariants as at
use Rattle.pm_model.specs.declared.stage.IdleStage.{IdleStage}
use Rattle.pm_model.specs.declared.stage.IdleStage.TheVariants as idle
use Rattle.pm_model.specs.declared.stage.ResumeCall.{ResumeCall}
use Rattle.pm_model.specs.declared.stage.ResumeStage.{ResumeStage}
use Rattle.pm_model.specs.declared.stage.ResumeStage.TheVariants as resume
use Rattle.pm_model.specs.declared.stage.Stage.{Stage}
use Rattle.pm_model.specs.declared.stage.Stage.TheVariants as stage
use Rattle.pm_model.specs.declared.stage.SuspendStage.{SuspendStage}
use Rattle.pm_model.specs.declared.stage.SuspendStage.TheVariants as suspend
use Rattle.pm_model.specs.ControlTable.{control_row, enabling, disabling, disable_starts, disable_ends, barrier_idles, barrier_resumes, barrier_ends, active_starts, active_gives, active_unwinds, active_takes, active_links, suspended_starts, tells_supplier, suppliers_idle, forbidding, allowing, sets, schedules, link_adds, link_dels, control_starts}
use Rattle.pm_model.specs.HelperTable.{carries_out, helper_row, helper_starts, put_suspends, timer_fires}
use Rattle.pm_model.specs.IdleTable.{after_put, idle_ends, idle_row, idle_verdict}
use Rattle.pm_model.specs.ResumeTable.{leaves, resume_domain, resume_ends, resume_gives, resume_links, resume_row, resume_takes, resume_unwinds, resume_verdict}
use Rattle.pm_model.specs.Row.{Row, writes}
use Rattle.pm_model.specs.SuspendTable.{suspend_domain, suspend_ends, suspend_gives, suspend_links, suspend_parent, suspend_row, suspend_verdict}
use Rattle.pm_model.specs.Views.{Views}
use Rattle.pm_model.specs.World.{row}
use Rattle.pm_laws.proofs.counts.HelperRows.{command}
use Rattle.pm_laws.proofs.stacks.Obeying.{Duty, Obeys, ObeysRow, both, both_next, ok, waiting}
use Rattle.pm_safety.specs.dependencies.Turning.{turned_by}

-- where the change is of a device's ignoring, the event turns that device
abbrev pub Ignores : Duty
Ignores e (change.Ignore d b) next = turned_by e ≡ Some d
Ignores e c next = Unit {0}

-- idle
idle_obeys : (plan : Plan) (v : Views) (t : ℕ) (s : IdleStage) → Obeys Ignores (idle_row plan v s t)
unfolding idle_verdict idle_ends after_put
idle_obeys plan v t (idle.Verdict d f) = search (both, ok) depth 40
idle_obeys plan v t _ = search (both, both_next, ok) depth 12

-- suspend
suspend_gives_obey : (v : Views) (d : DevId) (f : ℕ) (x : Option (ℕ × DevId)) → Obeys Ignores (suspend_gives v d f x)
suspend_gives_obey v d f (Some link) = search ok
suspend_gives_obey v d f None = search (both, ok) depth 12

suspend_obeys : (plan : Plan) (v : Views) (t : ℕ) (s : SuspendStage) → Obeys Ignores (suspend_row plan v s t)
unfolding suspend_verdict suspend_ends suspend_links suspend_domain suspend_parent
suspend_obeys plan v t (suspend.Waiting d f) = search (both, waiting, ok) depth 40
suspend_obeys plan v t _ = search (both, both_next, ok, suspend_gives_obey) depth 40

-- resume
resume_takes_obey : (plan : Plan) (v : Views) (r : ResumeCall) (t : ℕ) (x : Option (ℕ × DevId)) → Obeys Ignores (resume_takes plan v r t x)
resume_takes_obey plan v r t (Some link) = search ok
resume_takes_obey plan v r t None = search (both, ok) depth 12

resume_gives_obey : (v : Views) (r : ResumeCall) (c : ℤ) (x : Option (ℕ × DevId)) → Obeys Ignores (resume_gives v r c x)
resume_gives_obey v r c (Some link) = search ok
resume_gives_obey v r c None = search ok

resume_obeys : (plan : Plan) (v : Views) (t : ℕ) (s : ResumeStage) → Obeys Ignores (resume_row plan v s t)
unfolding resume_verdict resume_links resume_unwinds resume_ends resume_domain leaves
resume_obeys plan v t (resume.Waiting r tried) = search (both, both_next, waiting, ok) depth 60
resume_obeys plan v t _ = search (both, both_next, ok, resume_takes_obey, resume_gives_obey) depth 60

-- helpers, work items and timers
calls_obey : (plan : Plan) (v : Views) (h : Helper) (d : DevId) (n : ℤ) (t : ℕ) → Obeys Ignores (helper_row plan v (at.Call (command h d n)) t)
calls_obey plan v helper.Resume d n t = search ok
calls_obey plan v _ d n t = search ok

works_obey : (plan : Plan) (v : Views) (d : DevId) (r : Req) → Obeys Ignores (writes (event.Work d (Run r)) change.Same (carries_out d r))
works_obey plan v d req.Nothing = search ok
works_obey plan v d _ = search ok

starts_obey : (v : Views) (h : Helper) (d : DevId) (n : ℤ) → Obeys Ignores (helper_starts v (command h d n))
unfolding helper_starts
starts_obey v helper.GetSync d n = search ok
starts_obey v _ d n = search (both, ok) depth 12

helper_obeys : (plan : Plan) (v : Views) (t : ℕ) (s : HelperStage) → Obeys Ignores (helper_row plan v s t)
unfolding put_suspends timer_fires
helper_obeys plan v t (at.Call c) = calls_obey plan v c.helper c.dev c.number t
helper_obeys plan v t (at.Work d) = works_obey plan v d _
helper_obeys plan v t (at.Start c) = starts_obey v c.helper c.dev c.number
helper_obeys plan v t _ = search (both, ok) depth 12

-- control functions
active_gives_obey : (v : Views) (d : DevId) (c : ℤ) (x : Option (ℕ × DevId)) → Obeys Ignores (active_gives d c x)
active_gives_obey v d c (Some link) = search ok
active_gives_obey v d c None = search ok

active_takes_obey : (plan : Plan) (v : Views) (d : DevId) (x : Option (ℕ × DevId)) → Obeys Ignores (active_takes plan v d x)
unfolding active_unwinds
active_takes_obey plan v d (Some link) = search ok
active_takes_obey plan v d None = search (both, ok, active_gives_obey) depth 12

tells_obey : (plan : Plan) (v : Views) (d : DevId) (x : Option (ℕ × DevId)) → Obeys Ignores (tells_supplier plan v d x)
tells_obey plan v d (Some link) = search ok
tells_obey plan v d None = search (both, ok) depth 12

control_starts_obey : (plan : Plan) (v : Views) (t : ℕ) (h : Helper) (d : DevId) (n : ℤ) → Obeys Ignores (control_starts plan v (command h d n) t)
unfolding control_starts schedules enabling disable_starts disabling active_starts suspended_starts allowing forbidding sets link_adds link_dels
control_starts_obey plan v t helper.Enable d n = search (both, ok) depth 12
control_starts_obey plan v t _ d n = search (both, ok) depth 20

control_obeys : (plan : Plan) (v : Views) (t : ℕ) (s : ControlStage) → Obeys Ignores (control_row plan v s t)
unfolding disabling disable_ends barrier_resumes barrier_idles barrier_ends active_links active_unwinds suppliers_idle
control_obeys plan v t (control.Start c) = control_starts_obey plan v t c.helper c.dev c.number
control_obeys plan v t (control.Disabled d) = search (both, waiting, ok) depth 12
control_obeys plan v t (control.BarrierWait d c) = search (both, waiting, ok) depth 12
control_obeys plan v t _ = search (both, ok, active_takes_obey, active_gives_obey, tells_obey) depth 20

obeyed : (x r : Row) → Some x ≡ Some r → Obeys Ignores x → ObeysRow Ignores r
obeyed x r is a = let same : x ≡ r = cc in subst (ObeysRow Ignores) same a.paid

-- every row of the call table
pub row_obeys : (plan : Plan) (v : Views) (t : ℕ) (s : Stage) (r : Row) → row plan v s t ≡ Some r → ObeysRow Ignores r
row_obeys plan v t (stage.Idle s) r is = obeyed _ r is (idle_obeys plan v t s)
row_obeys plan v t (stage.Suspend s) r is = obeyed _ r is (suspend_obeys plan v t s)
row_obeys plan v t (stage.Resume s) r is = obeyed _ r is (resume_obeys plan v t s)
row_obeys plan v t (stage.Helper s) r is = obeyed _ r is (helper_obeys plan v t s)
row_obeys plan v t (stage.Control s) r is = obeyed _ r is (control_obeys plan v t s)
row_obeys plan v t (stage.Await s) r is = cc
