-- A row that takes a link calls the resume of its supplier.
use Rattle.std.proofs.Common.{ℕ, ◌≡◌, ◌<◌, ◌⊎◌, Bool, true, false, ◌&&◌, Option, Some, None, ℤ, nat_eq, if◌then◌else◌, refl, sym, subst, arith, inl, inr}
use Rattle.pm_model.specs.declared.stage.Change.{Change}
use Rattle.pm_model.specs.declared.event.Word.TheVariants as word
use Rattle.pm_model.specs.Counted.{is_same, only_if, says_held}
use Rattle.pm_base.specs.declared.DevId.{DevId}
use Rattle.pm_base.specs.declared.Why.TheVariants as why
use Rattle.pm_model.specs.declared.event.Command.{Command}
use Rattle.pm_model.specs.declared.event.Event.{Event}
use Rattle.pm_model.specs.declared.event.Event.TheVariants as event
use Rattle.pm_model.specs.declared.event.Helper.{Helper}
use Rattle.pm_model.specs.declared.event.Helper.TheVariants as helper
use Rattle.pm_model.specs.declared.plan.Plan.{Plan}
use Rattle.pm_model.specs.declared.stage.ControlStage.{ControlStage}
use Rattle.pm_model.specs.declared.stage.ControlStage.TheVariants as control
use Rattle.pm_model.specs.declared.stage.HelperStage.{HelperStage}
use Rattle.pm_model.specs.declared.stage.HelperStage.TheVariants as at
use Rattle.pm_model.specs.declared.stage.IdleStage.{IdleStage}
use Rattle.pm_model.specs.declared.stage.IdleStage.TheVariants as idle
use Rattle.pm_model.specs.declared.stage.ResumeCall.{ResumeCall}
use Rattle.pm_model.specs.declared.stage.ResumeStage.{ResumeStage}
use Rattle.pm_model.specs.declared.stage.ResumeStage.TheVariants as resume
use Rattle.pm_model.specs.declared.stage.Stage.{Stage}
use Rattle.pm_model.specs.declared.stage.Stage.TheVariants as stage
use Rattle.pm_model.specs.declared.stage.SuspendStage.{SuspendStage}
use Rattle.pm_model.specs.declared.stage.SuspendStage.TheVariants as suspend
use Rattle.pm_model.specs.declared.stage.Then.{Then}
use Rattle.pm_model.specs.Derived.{first_held, first_free, next_supplier}
use Rattle.pm_model.specs.ControlTable as table
use Rattle.pm_model.specs.ControlTable.{enabling, disabling, disable_starts, disable_ends, barrier_idles, barrier_resumes, barrier_ends, active_starts, active_unwinds, active_links, suspended_starts, tells_supplier, suppliers_idle, forbidding, allowing, sets, schedules, link_adds, link_dels, control_starts, control_row}
use Rattle.pm_model.specs.HelperTable.{helper_starts, put_suspends, timer_fires, helper_row}
use Rattle.pm_model.specs.IdleTable.{idle_verdict, idle_ends, after_put, idle_row}
use Rattle.pm_model.specs.ResumeTable.{resume_verdict, resume_takes, resume_links, resume_gives, resume_unwinds, resume_ends, resume_domain, resume_row}
use Rattle.pm_model.specs.Row.{Row, writes, waits}
use Rattle.pm_model.specs.SuspendTable as low
use Rattle.pm_model.specs.SuspendTable.{suspend_row, suspend_verdict, suspend_ends, suspend_links, suspend_domain, suspend_parent}
use Rattle.pm_model.specs.Views.{Views}
use Rattle.pm_model.specs.World.{row}
use Rattle.pm_laws.specs.counts.Sums.{one, plus}
use Rattle.pm_laws.specs.stacks.Shape.{IsLink}
use Rattle.pm_laws.proofs.safe.Falling.{left}
use Rattle.pm_laws.proofs.stacks.Found.{free_is}
use Rattle.pm_laws.proofs.stacks.PlanLaw.{one_link}
use Rattle.pm_laws.proofs.stacks.Tests.{same_device, same_self}

-- where an event takes a link, its supplier's resume is pending
abbrev pub Takes : Plan → Event → Then → Type 0
Takes plan (event.Get s (why.Link d)) next = (l : ℕ) × IsLink plan l d s × ((q : Option ℕ) → 0 < left l q next)
Takes plan _ next = Unit {0}

abbrev pub TakesRow : Plan → Row → Type 0
TakesRow plan (writes e change next) = Takes plan e next
TakesRow plan (waits d) = Unit {0}

pub record Taking (plan : Plan) (r : Row) : Type 0 where
  pub paid : TakesRow plan r

ok : {plan : Plan} {e : Event} {change : Change} {next : Then} → Takes plan e next → Taking plan (writes e change next)
ok h = record { paid = h }

rests : {plan : Plan} {d : DevId} → Taking plan (waits d)
rests = record { paid = tt }

both : {plan : Plan} {x y : Row} (b : Bool) → Taking plan x → Taking plan y → Taking plan (if b then x else y)
both true f g = f
both false f g = g

pending_call : (link : ℕ × DevId) (n : ℕ) → 0 < plus (one (nat_eq link.0 link.0)) n
pending_call link n = rw (same_self link.0) (omega arith)

takes_rest : (plan : Plan) (v : Views) (r : ResumeCall) (t : ℕ) (x : Option (ℕ × DevId)) → first_free plan v r.dev ≡ x → Taking plan (resume_takes plan v r t x)
takes_rest plan v r t (Some link) e = ok (link.0, free_is plan v r.dev link e, λ q. pending_call link _)
takes_rest plan v r t None e = search (both, ok)

active_gives : (plan : Plan) (d : DevId) (c : ℤ) (x : Option (ℕ × DevId)) → Taking plan (table.active_gives d c x)
active_gives plan d c (Some link) = ok tt
active_gives plan d c None = ok tt

unwinds_take : (plan : Plan) (v : Views) (d : DevId) (c : ℤ) → Taking plan (active_unwinds plan v d c)
unfolding active_unwinds
unwinds_take plan v d c = active_gives plan d c (first_held plan v d)

active_takes : (plan : Plan) (v : Views) (d : DevId) (x : Option (ℕ × DevId)) → first_free plan v d ≡ x → Taking plan (table.active_takes plan v d x)
active_takes plan v d (Some link) e = ok (link.0, free_is plan v d link e, λ q. pending_call link _)
active_takes plan v d None e = search (both, ok, unwinds_take) depth 12

gives_take : (plan : Plan) (v : Views) (r : ResumeCall) (c : ℤ) (x : Option (ℕ × DevId)) → Taking plan (resume_gives v r c x)
gives_take plan v r c (Some link) = ok tt
gives_take plan v r c None = ok tt

resume_rows : (plan : Plan) (v : Views) (t : ℕ) (s : ResumeStage) → Taking plan (resume_row plan v s t)
unfolding resume_verdict resume_links resume_unwinds resume_ends resume_domain
resume_rows plan v t (resume.Enter r) = ok tt
resume_rows plan v t (resume.Verdict r tried) = search (both, ok) depth 40
resume_rows plan v t (resume.Waiting r tried) = search (both, ok, rests) depth 40
resume_rows plan v t (resume.Links r) = takes_rest plan v r t (first_free plan v r.dev) refl
resume_rows plan v t (resume.Supplied r c) = both _ (takes_rest plan v r t (first_free plan v r.dev) refl) (gives_take plan v r c (first_held plan v r.dev))
resume_rows plan v t (resume.Callback r) = ok tt
resume_rows plan v t (resume.Running r since) = search (both, ok) depth 12
resume_rows plan v t (resume.Resumed r) = ok tt
resume_rows plan v t (resume.Idle r) = ok tt
resume_rows plan v t (resume.Done r c) = ok tt
resume_rows plan v t (resume.Parent r c) = ok tt
resume_rows plan v t (resume.Domain r c) = both _ (ok tt) (gives_take plan v r c (first_held plan v r.dev))
resume_rows plan v t (resume.Unwind r c) = gives_take plan v r c (first_held plan v r.dev)

lowers_take : (plan : Plan) (v : Views) (d : DevId) (f : ℕ) (x : Option (ℕ × DevId)) → Taking plan (low.suspend_gives v d f x)
lowers_take plan v d f (Some link) = ok tt
lowers_take plan v d f None = search (both, ok) depth 12

suspend_rows : (plan : Plan) (v : Views) (t : ℕ) (s : SuspendStage) → Taking plan (suspend_row plan v s t)
unfolding suspend_verdict suspend_ends suspend_links suspend_domain suspend_parent
suspend_rows plan v t (suspend.Verdict d f) = search (both, ok) depth 40
suspend_rows plan v t (suspend.Waiting d f) = search (both, ok, rests) depth 40
suspend_rows plan v t (suspend.Domain d f) = both _ (ok tt) (lowers_take plan v d f (first_held plan v d))
suspend_rows plan v t (suspend.Links d f) = lowers_take plan v d f (first_held plan v d)
suspend_rows plan v t (suspend.Parent d f) = search (both, ok) depth 12
suspend_rows plan v t _ = ok tt

idle_rows : (plan : Plan) (v : Views) (t : ℕ) (s : IdleStage) → Taking plan (idle_row plan v s t)
unfolding idle_verdict idle_ends after_put
idle_rows plan v t (idle.Verdict d f) = search (both, ok) depth 40
idle_rows plan v t (idle.AfterPut d f) = search (both, ok) depth 12
idle_rows plan v t _ = ok tt

helper_rows : (plan : Plan) (v : Views) (t : ℕ) (s : HelperStage) → Taking plan (helper_row plan v s t)
unfolding helper_starts put_suspends timer_fires
helper_rows plan v t (at.Start c) = go c.helper
  where
    go : (h : Helper) → Taking plan (helper_starts v (record c { helper = h }))
    go helper.GetSync = ok tt
    go _ = search (both, ok) depth 12
helper_rows plan v t (at.PutSuspends c) = search (both, ok) depth 12
helper_rows plan v t _ = ok tt

tells_take : (plan : Plan) (v : Views) (d : DevId) (x : Option (ℕ × DevId)) → Taking plan (tells_supplier plan v d x)
tells_take plan v d (Some link) = ok tt
tells_take plan v d None = search (both, ok) depth 12

starts_take : (plan : Plan) (v : Views) (c : Command) (t : ℕ) → Taking plan (control_starts plan v c t)
unfolding control_starts enabling disable_starts disabling active_starts suspended_starts forbidding allowing sets schedules link_adds link_dels
starts_take plan v c t = go c.helper
  where
    go : (h : Helper) → Taking plan (control_starts plan v (record c { helper = h }) t)
    go helper.Barrier = ok tt
    go _ = search (both, ok) depth 20

control_rows : (plan : Plan) (v : Views) (t : ℕ) (s : ControlStage) → Taking plan (control_row plan v s t)
unfolding disabling disable_ends barrier_idles barrier_resumes barrier_ends active_links suppliers_idle
control_rows plan v t (control.Start c) = starts_take plan v c t
control_rows plan v t (control.DisablePut d) = ok tt
control_rows plan v t (control.Disable d) = search (both, ok) depth 12
control_rows plan v t (control.Disabled d) = search (both, ok, rests) depth 12
control_rows plan v t (control.BarrierResume d) = search (both, ok) depth 12
control_rows plan v t (control.BarrierIdle d c) = search (both, ok) depth 12
control_rows plan v t (control.BarrierWait d c) = search (both, ok, rests) depth 12
control_rows plan v t (control.ActiveLinks d) = active_takes plan v d (first_free plan v d) refl
control_rows plan v t (control.ActiveUnwind d c) = unwinds_take plan v d c
control_rows plan v t (control.SuppliersIdle d last) = tells_take plan v d (next_supplier plan v d last)

taking_same : (plan : Plan) (x r : Row) → Some x ≡ Some r → Taking plan x → Taking plan r
taking_same plan x r e o = let same : x ≡ r = cc in subst (Taking plan) same o

pub row_takes : (plan : Plan) (v : Views) (t : ℕ) (s : Stage) (r : Row) → row plan v s t ≡ Some r → Taking plan r
row_takes plan v t (stage.Idle s) r e = taking_same plan _ r e (idle_rows plan v t s)
row_takes plan v t (stage.Suspend s) r e = taking_same plan _ r e (suspend_rows plan v t s)
row_takes plan v t (stage.Resume s) r e = taking_same plan _ r e (resume_rows plan v t s)
row_takes plan v t (stage.Helper s) r e = taking_same plan _ r e (helper_rows plan v t s)
row_takes plan v t (stage.Control s) r e = taking_same plan _ r e (control_rows plan v t s)
row_takes plan v t (stage.Await s) r e = cc

-- a link that is held after a line was held before it, or is pending now
pub taken_by : (plan : Plan) (l : ℕ) (d s : DevId) (q : Option ℕ) (e : Event) (next : Then) (old : Bool) → IsLink plan l d s → Takes plan e next
    → (elim (says_held d s e) as (λ _. Bool) [ Some x ↦ x | None ↦ old ]) ≡ true → (old ≡ true) ⊎ (0 < left l q next)
taken_by plan l d s q (event.Get x (why.Link c)) next old is takes held = go (is_same s x) (is_same d c) refl refl held
  where
    go : (a b : Bool) → is_same s x ≡ a → is_same d c ≡ b → (elim (only_if (a && b) true) as (λ _. Bool) [ Some x ↦ x | None ↦ old ]) ≡ true
        → (old ≡ true) ⊎ (0 < left l q next)
    go true true u v h =
        let there : IsLink plan takes.0 d s = rw (sym (same_device x s u), sym (same_device c d v)) takes.1 in
        inr (rw (one_link plan l takes.0 d s is there) (takes.2 q))
    go true false u v h = inl h
    go false b u v h = inl h
taken_by plan l d s q (event.Put x (why.Link c)) next old is takes held = go (is_same s x && is_same d c) held
  where
    go : (b : Bool) → (elim (only_if b false) as (λ _. Bool) [ Some x ↦ x | None ↦ old ]) ≡ true → (old ≡ true) ⊎ (0 < left l q next)
    go true h = cc
    go false h = inl h
taken_by plan l d s q (event.State x word.ForcedSuspended) next old is takes held = go (is_same d x) held
  where
    go : (b : Bool) → (elim (only_if b false) as (λ _. Bool) [ Some x ↦ x | None ↦ old ]) ≡ true → (old ≡ true) ⊎ (0 < left l q next)
    go true h = cc
    go false h = inl h
taken_by plan l d s q _ next old is takes held = inl held
