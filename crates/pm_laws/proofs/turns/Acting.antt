-- Each row of the call table writes a line unless its stage blocks, and turns idle callbacks as its stages do.
use Rattle.std.proofs.Common.{ℕ, ◌≡◌, ◌+◌, Bool, true, false, not, Option, Some, None, ℤ, if◌then◌else◌, ap, refl, arith, subst}
use Rattle.std.specs.Option.{unwrap_or}
use Rattle.pm_base.specs.declared.Cb.TheVariants as cb
use Rattle.pm_base.specs.declared.DevId.{DevId}
use Rattle.pm_base.specs.declared.Req.{Req}
use Rattle.pm_base.specs.declared.Req.TheVariants as req
use Rattle.pm_model.specs.declared.event.Event.{Event}
use Rattle.pm_model.specs.declared.event.Event.TheVariants as event
use Rattle.pm_model.specs.declared.event.Helper.{Helper}
use Rattle.pm_model.specs.declared.event.Helper.TheVariants as helper
use Rattle.pm_model.specs.declared.plan.Plan.{Plan}
use Rattle.pm_model.specs.declared.stage.Change.{Change}
use Rattle.pm_model.specs.declared.stage.ControlStage.{ControlStage}
use Rattle.pm_model.specs.declared.stage.ControlStage.TheVariants as control
use Rattle.pm_model.specs.declared.stage.HelperStage.{HelperStage}
use Rattle.pm_model.specs.declared.stage.HelperStage.TheVariants as at
use Rattle.pm_model.specs.declared.stage.IdleStage.{IdleStage}
use Rattle.pm_model.specs.declared.stage.IdleStage.TheVariants as idle
use Rattle.pm_model.specs.declared.stage.ResumeCall.{ResumeCall}
use Rattle.pm_model.specs.declared.stage.ResumeStage.{ResumeStage}
use Rattle.pm_model.specs.declared.stage.ResumeStage.TheVariants as resume
use Rattle.pm_model.specs.declared.stage.Stage.{Stage}
use Rattle.pm_model.specs.declared.stage.Stage.TheVariants as stage
use Rattle.pm_model.specs.declared.stage.SuspendStage.{SuspendStage}
use Rattle.pm_model.specs.declared.stage.SuspendStage.TheVariants as suspend
use Rattle.pm_model.specs.declared.stage.Then.{Then}
use Rattle.pm_model.specs.ControlTable.{control_row, enabling, disabling, disable_starts, disable_ends, barrier_idles, barrier_resumes, barrier_ends, active_starts, active_gives, active_unwinds, active_takes, active_links, suspended_starts, tells_supplier, suppliers_idle, forbidding, allowing, sets, schedules, link_adds, link_dels, control_starts}
use Rattle.pm_model.specs.Counted.{is_same, only_if, says_runs}
use Rattle.pm_model.specs.HelperTable.{begins, carries_out, helper_row, helper_starts, put_suspends, timer_fires}
use Rattle.pm_model.specs.IdleTable.{after_put, idle_ends, idle_row, idle_verdict}
use Rattle.pm_model.specs.ResumeTable.{leaves, resume_domain, resume_ends, resume_gives, resume_links, resume_row, resume_takes, resume_unwinds, resume_verdict}
use Rattle.pm_model.specs.Row.{Row, writes, waits, goes, move_of}
use Rattle.pm_model.specs.Serial.{writes_line}
use Rattle.pm_model.specs.SuspendTable.{suspend_domain, suspend_ends, suspend_gives, suspend_links, suspend_parent, suspend_row, suspend_verdict}
use Rattle.pm_model.specs.Views.{Views, device}
use Rattle.pm_model.specs.World.{row}
use Rattle.pm_laws.specs.counts.Sums.{one, weigh}
use Rattle.pm_laws.proofs.counts.HelperRows.{command}
use Rattle.pm_laws.proofs.counts.Owning.{none, only, same_is}
use Rattle.pm_laws.proofs.counts.Places.{shown}
use Rattle.pm_laws.specs.turns.Blocks.{blocks}
use Rattle.pm_laws.specs.turns.Idles.{runs_idle}

-- idle callbacks turn as stages do: where a stage that runs some is one of those that run the callbacks before a line, the
-- stages that take its place are one of those after it
abbrev pub Turns : Views → (DevId → ℕ) → Event → Then → Type 0
Turns v ran e next = (d : DevId) (others : ℕ) → one (device v d).idle_running ≡ ran d + others
    → one (unwrap_or (says_runs cb.Idle d e) (device v d).idle_running) ≡ weigh (runs_idle d) (shown next) + others

-- a stage that doesn't block writes a line
abbrev pub ActsRow : Views → (DevId → ℕ) → Bool → Row → Type 0
ActsRow v ran blocked (writes e change next) = (blocked ≡ false) × Turns v ran e next
ActsRow v ran blocked (waits d) = blocked ≡ true

-- what a row does at a stage that runs these idle callbacks, and that blocks or doesn't
pub record Acts (v : Views) (ran : DevId → ℕ) (blocked : Bool) (r : Row) : Type 0 where
  pub paid : ActsRow v ran blocked r

-- no idle callback begins or ends
acts : {v : Views} {e : Event} {change : Change} {next : Then} → ((d : DevId) → says_runs cb.Idle d e ≡ None)
    → ((d : DevId) → weigh (runs_idle d) (shown next) ≡ 0) → Acts v none false (writes e change next)
acts silent light = record { paid = (refl, λ d others was. rw (silent d, light d) was) }

begun : (b running : Bool) (others : ℕ) → (b ≡ true → running ≡ false) → one running ≡ 0 + others → one (unwrap_or (only_if b true) running) ≡ one b + others
begun true running others rests was = let none_ran = ap one (rests refl) in omega arith
begun false running others rests was = omega arith

ended : (b running : Bool) (others : ℕ) → one running ≡ one b + others → one (unwrap_or (only_if b false) running) ≡ 0 + others
ended true true others was = omega arith
ended true false others was = absurd (omega arith)
ended false running others was = was

begins_idle : {v : Views} {change : Change} (e : DevId) (f t : ℕ) → (device v e).idle_running ≡ false
    → Acts v none false (writes (event.Begin e cb.Idle) change (goes (stage.Idle (idle.Running e f t))))
begins_idle {v} e f t rests = record {
  paid = (refl, λ d others was. begun (is_same d e) (device v d).idle_running others (λ same. subst (λ x. (device v x).idle_running ≡ false) (same_is d e same) rests) was);
}

ends_idle : {v : Views} {change : Change} (e : DevId) (f : ℕ) (c : ℤ)
    → Acts v (only e) false (writes (event.End e cb.Idle c) change (goes (stage.Idle (idle.Done e f c))))
ends_idle {v} e f c = record { paid = (refl, λ d others was. ended (is_same d e) (device v d).idle_running others was) }

-- a row where its test holds, and those after it where it doesn't
either : {v : Views} {ran : DevId → ℕ} {blocked : Bool} {x y : Row} (b : Bool) → (b ≡ true → Acts v ran blocked x) → (b ≡ false → Acts v ran blocked y)
    → Acts v ran blocked (if b then x else y)
either true f g = f refl
either false f g = g refl

both : {v : Views} {ran : DevId → ℕ} {blocked : Bool} {x y : Row} (b : Bool) → Acts v ran blocked x → Acts v ran blocked y
    → Acts v ran blocked (if b then x else y)
both b p q = either b (λ _. p) (λ _. q)

both_next : {v : Views} {ran : DevId → ℕ} {blocked : Bool} {e : Event} {change : Change} {x y : Then} (b : Bool)
    → Acts v ran blocked (writes e change x) → Acts v ran blocked (writes e change y) → Acts v ran blocked (writes e change (if b then x else y))
both_next true p q = p
both_next false p q = q

-- a stage that blocks where the test holds
unless : {v : Views} {ran : DevId → ℕ} {x : Row} (b : Bool) (d : DevId) → Acts v ran false x → Acts v ran b (if b then waits d else x)
unless true d p = record { paid = refl }
unless false d p = p

-- idle
idle_acts : (plan : Plan) (v : Views) (t : ℕ) (s : IdleStage) → Acts v (λ d. runs_idle d (stage.Idle s)) false (idle_row plan v s t)
unfolding idle_verdict idle_ends after_put
idle_acts plan v t (idle.Verdict d f) = search (either, begins_idle, acts) depth 40
idle_acts plan v t (idle.Running d f since) = ends_idle d f _
idle_acts plan v t _ = search (both, both_next, acts) depth 12

-- suspend
suspend_gives_act : (v : Views) (d : DevId) (f : ℕ) (x : Option (ℕ × DevId)) → Acts v none false (suspend_gives v d f x)
suspend_gives_act v d f (Some link) = search acts
suspend_gives_act v d f None = search (both, acts) depth 12

suspend_acts : (plan : Plan) (v : Views) (t : ℕ) (s : SuspendStage) → Acts v none (blocks v (stage.Suspend s)) (suspend_row plan v s t)
unfolding suspend_verdict suspend_ends suspend_links suspend_domain suspend_parent
suspend_acts plan v t (suspend.Waiting d f) = search (unless, both, acts) depth 40
suspend_acts plan v t _ = search (both, both_next, acts, suspend_gives_act) depth 40

-- resume
resume_takes_act : (plan : Plan) (v : Views) (r : ResumeCall) (t : ℕ) (x : Option (ℕ × DevId)) → Acts v none false (resume_takes plan v r t x)
resume_takes_act plan v r t (Some link) = search acts
resume_takes_act plan v r t None = search (both, acts) depth 12

resume_gives_act : (v : Views) (r : ResumeCall) (c : ℤ) (x : Option (ℕ × DevId)) → Acts v none false (resume_gives v r c x)
resume_gives_act v r c (Some link) = search acts
resume_gives_act v r c None = search acts

resume_acts : (plan : Plan) (v : Views) (t : ℕ) (s : ResumeStage) → Acts v none (blocks v (stage.Resume s)) (resume_row plan v s t)
unfolding resume_verdict resume_links resume_unwinds resume_ends resume_domain leaves
resume_acts plan v t (resume.Waiting r tried) = search (unless, both, both_next, acts) depth 60
resume_acts plan v t _ = search (both, both_next, acts, resume_takes_act, resume_gives_act) depth 60

-- helpers, work items and timers
calls_act : (v : Views) (h : Helper) (d : DevId) (n : ℤ) (t : ℕ) (change : Change)
    → Acts v none false (writes (event.Call (command h d n)) change (begins (command h d n) t))
calls_act v helper.Resume d n t change = search acts
calls_act v _ d n t change = search acts

works_act : (v : Views) (e : Event) (change : Change) (d : DevId) (r : Req) → ((x : DevId) → says_runs cb.Idle x e ≡ None) → Acts v none false (writes e change (carries_out d r))
works_act v e change d req.Nothing silent = search acts
works_act v e change d _ silent = search acts

starts_act : (v : Views) (h : Helper) (d : DevId) (n : ℤ) → Acts v none false (helper_starts v (command h d n))
unfolding helper_starts
starts_act v helper.GetSync d n = search acts
starts_act v _ d n = search (both, acts) depth 12

helper_acts : (plan : Plan) (v : Views) (t : ℕ) (s : HelperStage) → Acts v none false (helper_row plan v s t)
unfolding put_suspends timer_fires
helper_acts plan v t (at.Call c) = calls_act v c.helper c.dev c.number t _
helper_acts plan v t (at.Work d) = search works_act
helper_acts plan v t (at.Start c) = starts_act v c.helper c.dev c.number
helper_acts plan v t _ = search (both, acts) depth 12

-- control functions
active_gives_act : (v : Views) (d : DevId) (c : ℤ) (x : Option (ℕ × DevId)) → Acts v none false (active_gives d c x)
active_gives_act v d c (Some link) = search acts
active_gives_act v d c None = search acts

active_takes_act : (plan : Plan) (v : Views) (d : DevId) (x : Option (ℕ × DevId)) → Acts v none false (active_takes plan v d x)
unfolding active_unwinds
active_takes_act plan v d (Some link) = search acts
active_takes_act plan v d None = search (both, acts, active_gives_act) depth 12

tells_act : (plan : Plan) (v : Views) (d : DevId) (x : Option (ℕ × DevId)) → Acts v none false (tells_supplier plan v d x)
tells_act plan v d (Some link) = search acts
tells_act plan v d None = search (both, acts) depth 12

control_starts_act : (plan : Plan) (v : Views) (t : ℕ) (h : Helper) (d : DevId) (n : ℤ) → Acts v none false (control_starts plan v (command h d n) t)
unfolding control_starts schedules enabling disable_starts disabling active_starts suspended_starts allowing forbidding sets link_adds link_dels
control_starts_act plan v t helper.Enable d n = search (both, acts) depth 12
control_starts_act plan v t _ d n = search (both, acts) depth 20

control_acts : (plan : Plan) (v : Views) (t : ℕ) (s : ControlStage) → Acts v none (blocks v (stage.Control s)) (control_row plan v s t)
unfolding disabling disable_ends barrier_resumes barrier_idles barrier_ends active_links active_unwinds suppliers_idle
control_acts plan v t (control.Start c) = control_starts_act plan v t c.helper c.dev c.number
control_acts plan v t (control.Disabled d) = search (unless, both, acts) depth 12
control_acts plan v t (control.BarrierWait d c) = search (unless, acts) depth 12
control_acts plan v t _ = search (both, acts, active_takes_act, active_gives_act, tells_act) depth 20

same_row : {v : Views} {ran : DevId → ℕ} {blocked : Bool} (x r : Row) → Some x ≡ Some r → Acts v ran blocked x → Acts v ran blocked r
same_row {v} {ran} {blocked} x r is a = let same : x ≡ r = cc in subst (Acts v ran blocked) same a

-- every row of the call table
pub row_acts : (plan : Plan) (v : Views) (t : ℕ) (s : Stage) (r : Row) → row plan v s t ≡ Some r → Acts v (λ d. runs_idle d s) (blocks v s) r
row_acts plan v t (stage.Idle s) r is = same_row _ r is (idle_acts plan v t s)
row_acts plan v t (stage.Suspend s) r is = same_row _ r is (suspend_acts plan v t s)
row_acts plan v t (stage.Resume s) r is = same_row _ r is (resume_acts plan v t s)
row_acts plan v t (stage.Helper s) r is = same_row _ r is (helper_acts plan v t s)
row_acts plan v t (stage.Control s) r is = same_row _ r is (control_acts plan v t s)
row_acts plan v t (stage.Await s) r is = cc

-- a stage that has a row waits exactly where it blocks
pub waits_told : (plan : Plan) (v : Views) (t : ℕ) (s : Stage) (r : Row) → row plan v s t ≡ Some r → writes_line (move_of r) ≡ not (blocks v s)
waits_told plan v t s (writes e change next) is = let a = row_acts plan v t s (writes e change next) is in rw a.paid.0 refl
waits_told plan v t s (waits d) is = let a = row_acts plan v t s (waits d) is in rw a.paid refl
