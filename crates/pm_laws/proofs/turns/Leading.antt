-- Each row of the call table names a change of its stage's device alone, and what takes the place of its stage waits only
-- after a wait line.
use Rattle.std.proofs.Common.{ℕ, ◌≡◌, Bool, true, false, Option, Some, None, ℤ, if◌then◌else◌, subst}
use Rattle.pm_base.specs.declared.DevId.{DevId}
use Rattle.pm_base.specs.declared.Req.{Req}
use Rattle.pm_base.specs.declared.Req.TheVariants as req
use Rattle.pm_model.specs.declared.event.Event.{Event}
use Rattle.pm_model.specs.declared.event.Event.TheVariants as event
use Rattle.pm_model.specs.declared.event.Helper.{Helper}
use Rattle.pm_model.specs.declared.event.Helper.TheVariants as helper
use Rattle.pm_model.specs.declared.event.WorkAct.TheVariants.{Run}
use Rattle.pm_model.specs.declared.plan.Plan.{Plan}
use Rattle.pm_model.specs.declared.stage.Change.{Change}
use Rattle.pm_model.specs.declared.stage.Change.TheVariants as change
use Rattle.pm_model.specs.declared.stage.ControlStage.{ControlStage}
use Rattle.pm_model.specs.declared.stage.ControlStage.TheVariants as control
use Rattle.pm_model.specs.declared.stage.HelperStage.{HelperStage}
use Rattle.pm_model.specs.declared.stage.HelperStage.TheVariants as at
use Rattle.pm_model.specs.declared.stage.IdleStage.{IdleStage}
use Rattle.pm_model.specs.declared.stage.IdleStage.TheVariants as idle
use Rattle.pm_model.specs.declared.stage.ResumeCall.{ResumeCall}
use Rattle.pm_model.specs.declared.stage.ResumeStage.{ResumeStage}
use Rattle.pm_model.specs.declared.stage.ResumeStage.TheVariants as resume
use Rattle.pm_model.specs.declared.stage.Stage.{Stage}
use Rattle.pm_model.specs.declared.stage.Stage.TheVariants as stage
use Rattle.pm_model.specs.declared.stage.SuspendStage.{SuspendStage}
use Rattle.pm_model.specs.declared.stage.SuspendStage.TheVariants as suspend
use Rattle.pm_model.specs.declared.stage.Then.{Then}
use Rattle.pm_model.specs.ControlTable.{control_row, enabling, disabling, disable_starts, disable_ends, barrier_idles, barrier_resumes, barrier_ends, active_starts, active_gives, active_unwinds, active_takes, active_links, suspended_starts, tells_supplier, suppliers_idle, forbidding, allowing, sets, schedules, link_adds, link_dels, control_starts}
use Rattle.pm_model.specs.HelperTable.{carries_out, helper_row, helper_starts, put_suspends, timer_fires}
use Rattle.pm_model.specs.IdleTable.{after_put, idle_ends, idle_row, idle_verdict}
use Rattle.pm_model.specs.ResumeTable.{leaves, resume_domain, resume_ends, resume_gives, resume_links, resume_row, resume_takes, resume_unwinds, resume_verdict}
use Rattle.pm_model.specs.Row.{Row, writes, waits}
use Rattle.pm_model.specs.SuspendTable.{suspend_domain, suspend_ends, suspend_gives, suspend_links, suspend_parent, suspend_row, suspend_verdict}
use Rattle.pm_model.specs.Views.{Views}
use Rattle.pm_model.specs.World.{row}
use Rattle.pm_laws.proofs.counts.HelperRows.{command}
use Rattle.pm_laws.specs.turns.Looks.{device_at, device_changed}
use Rattle.pm_laws.specs.turns.Told.{IsCalm, IsShown, wait_in}

-- this device, if it is one
abbrev pub IsOne : Option DevId → Option DevId → Type 0
IsOne None at = Unit {0}
IsOne (Some d) at = at ≡ Some d

abbrev pub LeadsRow : Option DevId → Row → Type 0
LeadsRow at (writes e c next) = IsOne (device_changed c) at × IsShown (wait_in e) next.push × IsCalm (wait_in e) next.back
LeadsRow at (waits x) = Unit {0}

-- a row of a stage of this device
pub record Leads (at : Option DevId) (r : Row) : Type 0 where
  pub shown : LeadsRow at r

ok : {at : Option DevId} {e : Event} {c : Change} {next : Then} → IsOne (device_changed c) at → IsShown (wait_in e) next.push → IsCalm (wait_in e) next.back
    → Leads at (writes e c next)
ok one shown calm = record { shown = (one, shown, calm) }

waiting : {at : Option DevId} {d : DevId} → Leads at (waits d)
waiting = record { shown = tt }

both : {at : Option DevId} {x y : Row} (b : Bool) → Leads at x → Leads at y → Leads at (if b then x else y)
both true p q = p
both false p q = q

both_next : {at : Option DevId} {e : Event} {c : Change} {x y : Then} (b : Bool) → Leads at (writes e c x) → Leads at (writes e c y)
    → Leads at (writes e c (if b then x else y))
both_next true p q = p
both_next false p q = q

-- idle
idle_leads : (plan : Plan) (v : Views) (t : ℕ) (s : IdleStage) → Leads (device_at (stage.Idle s)) (idle_row plan v s t)
unfolding idle_verdict idle_ends after_put
idle_leads plan v t (idle.Verdict d f) = search (both, ok) depth 40
idle_leads plan v t _ = search (both, both_next, ok) depth 12

-- suspend
suspend_gives_lead : (v : Views) (d : DevId) (f : ℕ) (x : Option (ℕ × DevId)) → Leads (Some d) (suspend_gives v d f x)
suspend_gives_lead v d f (Some link) = search ok
suspend_gives_lead v d f None = search (both, ok) depth 12

suspend_leads : (plan : Plan) (v : Views) (t : ℕ) (s : SuspendStage) → Leads (device_at (stage.Suspend s)) (suspend_row plan v s t)
unfolding suspend_verdict suspend_ends suspend_links suspend_domain suspend_parent
suspend_leads plan v t (suspend.Waiting d f) = search (both, waiting, ok) depth 40
suspend_leads plan v t _ = search (both, both_next, ok, suspend_gives_lead) depth 40

-- resume
resume_takes_lead : (plan : Plan) (v : Views) (r : ResumeCall) (t : ℕ) (x : Option (ℕ × DevId)) → Leads (Some r.dev) (resume_takes plan v r t x)
resume_takes_lead plan v r t (Some link) = search ok
resume_takes_lead plan v r t None = search (both, ok) depth 12

resume_gives_lead : (v : Views) (r : ResumeCall) (c : ℤ) (x : Option (ℕ × DevId)) → Leads (Some r.dev) (resume_gives v r c x)
resume_gives_lead v r c (Some link) = search ok
resume_gives_lead v r c None = search ok

resume_leads : (plan : Plan) (v : Views) (t : ℕ) (s : ResumeStage) → Leads (device_at (stage.Resume s)) (resume_row plan v s t)
unfolding resume_verdict resume_links resume_unwinds resume_ends resume_domain leaves
resume_leads plan v t (resume.Waiting r tried) = search (both, both_next, waiting, ok) depth 60
resume_leads plan v t _ = search (both, both_next, ok, resume_takes_lead, resume_gives_lead) depth 60

-- helpers, work items and timers
calls_lead : (plan : Plan) (v : Views) (h : Helper) (d : DevId) (n : ℤ) (t : ℕ) → Leads None (helper_row plan v (at.Call (command h d n)) t)
calls_lead plan v helper.Resume d n t = search ok
calls_lead plan v _ d n t = search ok

works_lead : (plan : Plan) (v : Views) (d : DevId) (r : Req) → Leads (Some d) (writes (event.Work d (Run r)) change.Same (carries_out d r))
works_lead plan v d req.Nothing = search ok
works_lead plan v d _ = search ok

starts_lead : (v : Views) (h : Helper) (d : DevId) (n : ℤ) → Leads (Some d) (helper_starts v (command h d n))
unfolding helper_starts
starts_lead v helper.GetSync d n = search ok
starts_lead v _ d n = search (both, ok) depth 12

helper_leads : (plan : Plan) (v : Views) (t : ℕ) (s : HelperStage) → Leads (device_at (stage.Helper s)) (helper_row plan v s t)
unfolding put_suspends timer_fires
helper_leads plan v t (at.Call c) = calls_lead plan v c.helper c.dev c.number t
helper_leads plan v t (at.Work d) = works_lead plan v d _
helper_leads plan v t (at.Start c) = starts_lead v c.helper c.dev c.number
helper_leads plan v t _ = search (both, ok) depth 12

-- control functions
active_gives_lead : (v : Views) (d : DevId) (c : ℤ) (x : Option (ℕ × DevId)) → Leads (Some d) (active_gives d c x)
active_gives_lead v d c (Some link) = search ok
active_gives_lead v d c None = search ok

active_takes_lead : (plan : Plan) (v : Views) (d : DevId) (x : Option (ℕ × DevId)) → Leads (Some d) (active_takes plan v d x)
unfolding active_unwinds
active_takes_lead plan v d (Some link) = search ok
active_takes_lead plan v d None = search (both, ok, active_gives_lead) depth 12

tells_lead : (plan : Plan) (v : Views) (d : DevId) (x : Option (ℕ × DevId)) → Leads (Some d) (tells_supplier plan v d x)
tells_lead plan v d (Some link) = search ok
tells_lead plan v d None = search (both, ok) depth 12

control_starts_lead : (plan : Plan) (v : Views) (t : ℕ) (h : Helper) (d : DevId) (n : ℤ) → Leads (Some d) (control_starts plan v (command h d n) t)
unfolding control_starts schedules enabling disable_starts disabling active_starts suspended_starts allowing forbidding sets link_adds link_dels
control_starts_lead plan v t helper.Enable d n = search (both, ok) depth 12
control_starts_lead plan v t _ d n = search (both, ok) depth 20

control_leads : (plan : Plan) (v : Views) (t : ℕ) (s : ControlStage) → Leads (device_at (stage.Control s)) (control_row plan v s t)
unfolding disabling disable_ends barrier_resumes barrier_idles barrier_ends active_links active_unwinds suppliers_idle
control_leads plan v t (control.Start c) = control_starts_lead plan v t c.helper c.dev c.number
control_leads plan v t (control.Disabled d) = search (both, waiting, ok) depth 12
control_leads plan v t (control.BarrierWait d c) = search (both, waiting, ok) depth 12
control_leads plan v t _ = search (both, ok, active_takes_lead, active_gives_lead, tells_lead) depth 20

led : {at : Option DevId} (x r : Row) → Some x ≡ Some r → Leads at x → LeadsRow at r
led {at} x r is a = let same : x ≡ r = cc in subst (LeadsRow at) same a.shown

-- every row of the call table
pub row_leads : (plan : Plan) (v : Views) (t : ℕ) (s : Stage) (r : Row) → row plan v s t ≡ Some r → LeadsRow (device_at s) r
row_leads plan v t (stage.Idle s) r is = led _ r is (idle_leads plan v t s)
row_leads plan v t (stage.Suspend s) r is = led _ r is (suspend_leads plan v t s)
row_leads plan v t (stage.Resume s) r is = led _ r is (resume_leads plan v t s)
row_leads plan v t (stage.Helper s) r is = led _ r is (helper_leads plan v t s)
row_leads plan v t (stage.Control s) r is = led _ r is (control_leads plan v t s)
row_leads plan v t (stage.Await s) r is = cc
