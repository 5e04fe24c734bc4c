-- The event of a row depends on the time only where an expiry is tested or a plain timer is armed.
use Rattle.std.proofs.Common.{ℕ, ◌≡◌, ◌+◌, ◌&&◌, Bool, true, false, not, Option, Some, None, ℤ, pos, nat_abs, nat_eq, if◌then◌else◌, ap, refl, ◌∙◌}
use Rattle.std.specs.Ordering.{int_eq}
use Rattle.pm_base.specs.declared.DevId.{DevId}
use Rattle.pm_model.specs.declared.event.Command.{Command}
use Rattle.pm_model.specs.declared.event.Event.{Event}
use Rattle.pm_model.specs.declared.event.Event.TheVariants as event
use Rattle.pm_model.specs.declared.event.Helper.{Helper}
use Rattle.pm_model.specs.declared.event.Helper.TheVariants as helper
use Rattle.pm_model.specs.declared.event.TimerAct.TheVariants.{Arm}
use Rattle.pm_model.specs.declared.plan.Plan.{Plan}
use Rattle.pm_model.specs.declared.stage.Change.{Change}
use Rattle.pm_model.specs.declared.stage.ControlStage.{ControlStage}
use Rattle.pm_model.specs.declared.stage.ControlStage.TheVariants as control
use Rattle.pm_model.specs.declared.stage.HelperStage.{HelperStage}
use Rattle.pm_model.specs.declared.stage.HelperStage.TheVariants as at
use Rattle.pm_model.specs.declared.stage.IdleStage.{IdleStage}
use Rattle.pm_model.specs.declared.stage.IdleStage.TheVariants as idle
use Rattle.pm_model.specs.declared.stage.ResumeCall.{ResumeCall}
use Rattle.pm_model.specs.declared.stage.ResumeStage.{ResumeStage}
use Rattle.pm_model.specs.declared.stage.ResumeStage.TheVariants as resume
use Rattle.pm_model.specs.declared.stage.Stage.{Stage}
use Rattle.pm_model.specs.declared.stage.Stage.TheVariants as stage
use Rattle.pm_model.specs.declared.stage.SuspendStage.{SuspendStage}
use Rattle.pm_model.specs.declared.stage.SuspendStage.TheVariants as suspend
use Rattle.pm_model.specs.declared.stage.Then.{Then}
use Rattle.pm_model.specs.Derived.{expiry, first_free, is_ahead, is_moving, refusal}
use Rattle.pm_model.specs.Row.{Row, writes, waits}
use Rattle.pm_model.specs.SuspendTable as suspends
use Rattle.pm_model.specs.ResumeTable as resumes
use Rattle.pm_model.specs.IdleTable as idles
use Rattle.pm_model.specs.HelperTable as helpers
use Rattle.pm_model.specs.ControlTable as controls
use Rattle.pm_model.specs.Views.{Views}
use Rattle.pm_laws.specs.bounds.Times.{arms, arms_for, event_at, event_of, expiry_of, minds_time}

-- two rows write the same event, or both wait
pub record Same (x y : Row) : Type 0 where
  pub shown : event_of x ≡ event_of y

pub alike : {x : Row} → Same x x
alike = record { shown = refl }

pub one_event : {e : Event} {f g : Change} {m n : Then} → Same (writes e f m) (writes e g n)
one_event = record { shown = refl }

pub both : {x x' y y' : Row} (b : Bool) → Same x x' → Same y y' → Same (if b then x else y) (if b then x' else y')
both true p q = p
both false p q = q

idle_verdict_same : (plan : Plan) (v : Views) (d : DevId) (f t u : ℕ) → Same (idles.idle_verdict plan v d f t) (idles.idle_verdict plan v d f u)
unfolding idles.idle_verdict
idle_verdict_same plan v d f t u = search (both, one_event) depth 40

idle_ends_same : (plan : Plan) (v : Views) (d : DevId) (f t u : ℕ) → Same (idles.idle_ends plan v d f t) (idles.idle_ends plan v d f u)
unfolding idles.idle_ends
idle_ends_same plan v d f t u = one_event

pub idle_same : (plan : Plan) (v : Views) (s : IdleStage) (t u : ℕ) → Same (idles.idle_row plan v s t) (idles.idle_row plan v s u)
idle_same plan v (idle.Verdict d f) t u = idle_verdict_same plan v d f t u
idle_same plan v (idle.Running d f since) t u = idle_ends_same plan v d f t u
idle_same plan v _ t u = alike

verdict_same : (plan : Plan) (v : Views) (d : DevId) (f t u : ℕ) → is_ahead (expiry v d) t ≡ is_ahead (expiry v d) u
    → Same (suspends.suspend_verdict plan v d f t) (suspends.suspend_verdict plan v d f u)
unfolding suspends.suspend_verdict
verdict_same plan v d f t u e = rw e (search (both, one_event) depth 40)

ends_same : (plan : Plan) (v : Views) (d : DevId) (f t u : ℕ) → Same (suspends.suspend_ends plan v d f t) (suspends.suspend_ends plan v d f u)
unfolding suspends.suspend_ends
ends_same plan v d f t u = one_event

pub suspend_same : (plan : Plan) (v : Views) (s : SuspendStage) (t u : ℕ)
    → is_ahead (expiry_of v (stage.Suspend s)) t ≡ is_ahead (expiry_of v (stage.Suspend s)) u
    → Same (suspends.suspend_row plan v s t) (suspends.suspend_row plan v s u)
suspend_same plan v (suspend.Verdict d f) t u e = verdict_same plan v d f t u e
suspend_same plan v (suspend.Waiting d f) t u e =
    both {x = waits d} {x' = waits d} {y = suspends.suspend_verdict plan v d f t} {y' = suspends.suspend_verdict plan v d f u} (is_moving v d) alike (verdict_same plan v d f t u e)
suspend_same plan v (suspend.Running d f since) t u e = ends_same plan v d f t u
suspend_same plan v _ t u e = alike

takes_same : (plan : Plan) (v : Views) (r : ResumeCall) (t u : ℕ) (x : Option (ℕ × DevId)) → Same (resumes.resume_takes plan v r t x) (resumes.resume_takes plan v r u x)
takes_same plan v r t u (Some link) = alike
takes_same plan v r t u None = search (both, one_event) depth 12

links_same : (plan : Plan) (v : Views) (r : ResumeCall) (t u : ℕ) → Same (resumes.resume_links plan v r t) (resumes.resume_links plan v r u)
unfolding resumes.resume_links
links_same plan v r t u = takes_same plan v r t u (first_free plan v r.dev)

pub resume_same : (plan : Plan) (v : Views) (s : ResumeStage) (t u : ℕ) → Same (resumes.resume_row plan v s t) (resumes.resume_row plan v s u)
resume_same plan v (resume.Links r) t u = links_same plan v r t u
resume_same plan v (resume.Supplied r c) t u = search (both, links_same, alike) depth 12
resume_same plan v (resume.Callback r) t u = one_event
resume_same plan v _ t u = alike

pub helper_same : (plan : Plan) (v : Views) (s : HelperStage) (t u : ℕ) → Same (helpers.helper_row plan v s t) (helpers.helper_row plan v s u)
helper_same plan v (at.Call c) t u = one_event
helper_same plan v _ t u = alike

abbrev pub command : Helper → DevId → ℤ → Command
command h d n = record { helper = h; dev = d; number = n }

-- schedule_suspend arms nothing
schedules_same : (plan : Plan) (v : Views) (d : DevId) (ms t u : ℕ) → (not (nat_eq ms 0) && int_eq (refusal plan v d) (pos 0)) ≡ false
    → Same (controls.schedules plan v d ms t) (controls.schedules plan v d ms u)
unfolding controls.schedules
schedules_same plan v d ms t u e = go _ _ _ _ (nat_eq ms 0) (int_eq (refusal plan v d) (pos 0)) e
  where
    go : (x y z w : Row) (a b : Bool) → (not a && b) ≡ false → Same (if a then x else if not b then y else z) (if a then x else if not b then y else w)
    go x y z w true b e = alike
    go x y z w false true e = cc
    go x y z w false false e = alike

pub schedules_arms : (plan : Plan) (v : Views) (d : DevId) (ms t : ℕ) → (not (nat_eq ms 0) && int_eq (refusal plan v d) (pos 0)) ≡ true
    → event_of (controls.schedules plan v d ms t) ≡ Some (event.Timer d (Arm (t + ms) false))
unfolding controls.schedules
schedules_arms plan v d ms t e = go _ _ _ (nat_eq ms 0) (int_eq (refusal plan v d) (pos 0)) e
  where
    go : (x y z : Row) (a b : Bool) → (not a && b) ≡ true → event_of (if a then x else if not b then y else z) ≡ event_of z
    go x y z true b e = cc
    go x y z false true e = refl
    go x y z false false e = cc

starts_same : (plan : Plan) (v : Views) (h : Helper) (d : DevId) (n : ℤ) (t u : ℕ) → arms plan v (command h d n) ≡ false
    → Same (controls.control_starts plan v (command h d n) t) (controls.control_starts plan v (command h d n) u)
unfolding controls.control_starts
starts_same plan v helper.ScheduleSuspend d n t u e = schedules_same plan v d (nat_abs n) t u e
starts_same plan v helper.MarkLastBusy d n t u e = one_event
starts_same plan v _ d n t u e = alike

starts_arms : (plan : Plan) (v : Views) (h : Helper) (d : DevId) (n : ℤ) (t : ℕ) → arms plan v (command h d n) ≡ true
    → event_of (controls.control_starts plan v (command h d n) t) ≡ Some (event.Timer d (Arm (t + nat_abs n) false))
unfolding controls.control_starts
starts_arms plan v helper.ScheduleSuspend d n t e = schedules_arms plan v d (nat_abs n) t e
starts_arms plan v _ d n t e = cc

no_arms : (b : Bool) (n : ℕ) → (if b then Some n else None) ≡ None → b ≡ false
no_arms true n e = cc
no_arms false n e = refl

some_arms : (b : Bool) (n m : ℕ) → (if b then Some n else None) ≡ Some m → (b ≡ true) × (n ≡ m)
some_arms true n m e = (refl, cc)
some_arms false n m e = cc

pub control_same : (plan : Plan) (v : Views) (s : ControlStage) (t u : ℕ) → arms_for plan v (stage.Control s) ≡ None
    → Same (controls.control_row plan v s t) (controls.control_row plan v s u)
control_same plan v (control.Start c) t u e = starts_same plan v c.helper c.dev c.number t u (no_arms (arms plan v c) (nat_abs c.number) e)
control_same plan v _ t u e = alike

-- where no timer is armed, only which side of the expiry it is matters
pub event_same : (plan : Plan) (v : Views) (s : Stage) (t u : ℕ) → arms_for plan v s ≡ None
    → is_ahead (expiry_of v s) t ≡ is_ahead (expiry_of v s) u → event_at plan v s t ≡ event_at plan v s u
event_same plan v (stage.Idle s) t u a e = (idle_same plan v s t u).shown
event_same plan v (stage.Suspend s) t u a e = (suspend_same plan v s t u e).shown
event_same plan v (stage.Resume s) t u a e = (resume_same plan v s t u).shown
event_same plan v (stage.Helper s) t u a e = (helper_same plan v s t u).shown
event_same plan v (stage.Control s) t u a e = (control_same plan v s t u a).shown
event_same plan v (stage.Await s) t u a e = refl

abbrev pub IsArm : ℕ → ℕ → Option Event → Type 0
IsArm t ms e = (d : DevId) × (e ≡ Some (event.Timer d (Arm (t + ms) false)))

-- where one is armed, it is for that much later
pub event_arms : (plan : Plan) (v : Views) (c : Command) (ms t : ℕ) → arms_for plan v (stage.Control (control.Start c)) ≡ Some ms
    → event_at plan v (stage.Control (control.Start c)) t ≡ Some (event.Timer c.dev (Arm (t + ms) false))
event_arms plan v c ms t e =
    let p = some_arms (arms plan v c) (nat_abs c.number) ms e in
    starts_arms plan v c.helper c.dev c.number t p.0 ∙ ap (λ n. Some (event.Timer c.dev (Arm (t + n) false))) p.1

pub arms_where : (plan : Plan) (v : Views) (s : Stage) (ms t : ℕ) → arms_for plan v s ≡ Some ms → IsArm t ms (event_at plan v s t)
arms_where plan v (stage.Control (control.Start c)) ms t e = (c.dev, event_arms plan v c ms t e)
arms_where plan v (stage.Control _) ms t e = cc
arms_where plan v (stage.Idle s) ms t e = cc
arms_where plan v (stage.Suspend s) ms t e = cc
arms_where plan v (stage.Resume s) ms t e = cc
arms_where plan v (stage.Helper s) ms t e = cc
arms_where plan v (stage.Await s) ms t e = cc

-- a stage that is neither has the same event at all times
minds_arms : (plan : Plan) (v : Views) (s : Stage) → minds_time s ≡ false → arms_for plan v s ≡ None
minds_arms plan v (stage.Control (control.Start c)) e = rw e refl
minds_arms plan v (stage.Control _) e = refl
minds_arms plan v (stage.Idle s) e = refl
minds_arms plan v (stage.Suspend s) e = refl
minds_arms plan v (stage.Resume s) e = refl
minds_arms plan v (stage.Helper s) e = refl
minds_arms plan v (stage.Await s) e = refl

minds_expiry : (v : Views) (s : Stage) → minds_time s ≡ false → expiry_of v s ≡ None
minds_expiry v (stage.Suspend (suspend.Verdict d f)) e = cc
minds_expiry v (stage.Suspend (suspend.Waiting d f)) e = cc
minds_expiry v (stage.Suspend _) e = refl
minds_expiry v (stage.Control s) e = refl
minds_expiry v (stage.Idle s) e = refl
minds_expiry v (stage.Resume s) e = refl
minds_expiry v (stage.Helper s) e = refl
minds_expiry v (stage.Await s) e = refl

pub event_timeless : (plan : Plan) (v : Views) (s : Stage) → minds_time s ≡ false → (t u : ℕ) → event_at plan v s t ≡ event_at plan v s u
event_timeless plan v s e t u =
    let none = minds_expiry v s e in
    event_same plan v s t u (minds_arms plan v s e) (rw none refl)
