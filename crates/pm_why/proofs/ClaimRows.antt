-- What each row of the call table does to the counts of each reason.
use Rattle.std.proofs.Common.{ℕ, ◌≡◌, ◌+◌, Bool, true, false, not, ◌&&◌, ◌||◌, Option, Some, None, ℤ, pos, nat_abs, if◌then◌else◌, refl, sym, ◌∙◌, arith, subst}
use Rattle.std.specs.Ordering.{int_eq}
use Rattle.std.proofs.lemmas.Bool.{false≢true}
use Rattle.pm_base.specs.declared.Cb.TheVariants as cb
use Rattle.pm_base.specs.declared.DevId.{DevId}
use Rattle.pm_base.specs.declared.Req.{Req}
use Rattle.pm_base.specs.declared.Req.TheVariants as req
use Rattle.pm_base.specs.declared.Why.{Why}
use Rattle.pm_base.specs.declared.Why.TheVariants as why
use Rattle.pm_base.specs.declared.codes.TheConstants.{ASYNC, EBUSY}
use Rattle.pm_model.specs.declared.event.Command.{Command}
use Rattle.pm_model.specs.declared.event.Event.TheVariants as event
use Rattle.pm_model.specs.declared.event.Helper.{Helper}
use Rattle.pm_model.specs.declared.event.Helper.TheVariants as helper
use Rattle.pm_model.specs.declared.event.WorkAct.TheVariants.{Run}
use Rattle.pm_model.specs.declared.plan.Plan.{Plan}
use Rattle.pm_model.specs.declared.stage.Change.{Change}
use Rattle.pm_model.specs.declared.stage.Change.TheVariants as change
use Rattle.pm_model.specs.declared.stage.ControlStage.{ControlStage}
use Rattle.pm_model.specs.declared.stage.ControlStage.TheVariants as control
use Rattle.pm_model.specs.declared.stage.HelperStage.{HelperStage}
use Rattle.pm_model.specs.declared.stage.HelperStage.TheVariants as at
use Rattle.pm_model.specs.declared.stage.IdleStage.{IdleStage}
use Rattle.pm_model.specs.declared.stage.IdleStage.TheVariants as idle
use Rattle.pm_model.specs.declared.stage.ResumeCall.{ResumeCall}
use Rattle.pm_model.specs.declared.stage.ResumeStage.{ResumeStage}
use Rattle.pm_model.specs.declared.stage.ResumeStage.TheVariants as resume
use Rattle.pm_model.specs.declared.stage.Stage.{Stage}
use Rattle.pm_model.specs.declared.stage.Stage.TheVariants as stage
use Rattle.pm_model.specs.declared.stage.SuspendStage.{SuspendStage}
use Rattle.pm_model.specs.declared.stage.SuspendStage.TheVariants as suspend
use Rattle.pm_model.specs.ControlTable.{active_gives, active_links, active_starts, active_takes, active_unwinds, allowing, barrier_ends, barrier_idles, barrier_resumes, control_row, control_starts, disable_ends, disable_starts, disabling, enabling, forbidding, is_pair_in, link_adds, link_dels, may_be_absent, schedules, sets, suppliers_idle, suspended_starts, tells_supplier}
use Rattle.pm_model.specs.Counted.{is_same}
use Rattle.pm_model.specs.Derived.{asks_resume, awaits_parent, busy, callback_code, first_free, first_held, has, has_error, is_active, is_disabled, is_moving, is_resuming, is_suspending, minds_parent, next_supplier, prevented}
use Rattle.pm_model.specs.HelperTable.{begins, carries_out, helper_row, helper_starts, put_suspends, timer_fires}
use Rattle.pm_model.specs.IdleTable.{after_put, idle_ends, idle_row, idle_verdict, then_suspends}
use Rattle.pm_model.specs.PlanRows.{has_domain, has_parent, no_callbacks, parent_of}
use Rattle.pm_model.specs.ResumeTable.{is_supplied, leaves, resume_domain, resume_ends, resume_gives, resume_goes, resume_links, resume_returns, resume_row, resume_takes, resume_unwinds, resume_verdict}
use Rattle.pm_model.specs.Row.{Row, back, writes}
use Rattle.pm_model.specs.SuspendTable.{may_not_wait, suspend_domain, suspend_ends, suspend_gives, suspend_goes, suspend_links, suspend_parent, suspend_row, suspend_verdict}
use Rattle.pm_model.specs.Views.{Views, device, pending_of}
use Rattle.pm_model.specs.World.{row}
use Rattle.pm_laws.specs.counts.Sums.{one, weigh}
use Rattle.pm_laws.proofs.counts.HelperRows.{command}
use Rattle.pm_laws.proofs.counts.Links.{free_found, held_found}
use Rattle.pm_laws.proofs.counts.Named.{IsCalm}
use Rattle.pm_laws.proofs.counts.Places.{shown}
use Rattle.pm_why.specs.OpenGets.{is_why}
use Rattle.pm_why.proofs.Claims.{Owes, SameClaims, alike, claims, either, either_next, gave, has_claim, other, took, waiting}

-- idle
verdict_books : (plan : Plan) (v : Views) (t : ℕ) (d : DevId) (f : ℕ) → Owes plan v (stage.Idle (idle.Verdict d f)) (idle_verdict plan v d f t)
unfolding idle_verdict
verdict_books plan v t d f = search (either, other) depth 20

ends_books : (plan : Plan) (v : Views) (t : ℕ) (d : DevId) (f since : ℕ) → Owes plan v (stage.Idle (idle.Running d f since)) (idle_ends plan v d f t)
unfolding idle_ends
ends_books plan v t d f since = search other

after_put_books : (plan : Plan) (v : Views) (d : DevId) (f : ℕ) → Owes plan v (stage.Idle (idle.AfterPut d f)) (after_put plan v d f)
unfolding after_put
after_put_books plan v d f = search (either, other)

idle_books : (plan : Plan) (v : Views) (t : ℕ) (s : IdleStage) → Owes plan v (stage.Idle s) (idle_row plan v s t)
idle_books plan v t (idle.Enter d f) = search other
idle_books plan v t (idle.Verdict d f) = verdict_books plan v t d f
idle_books plan v t (idle.Running d f since) = ends_books plan v t d f since
idle_books plan v t (idle.Done d f c) =
    other tt (either_next plan (stage.Idle (idle.Done d f c)) (int_eq c (pos 0)) (then_suspends d f) (back c) (λ _ _. refl) (λ _ _. refl)) tt tt tt
idle_books plan v t (idle.Queued d f) = search other
idle_books plan v t (idle.AfterPut d f) = after_put_books plan v d f

-- suspend
suspend_verdict_books : (plan : Plan) (v : Views) (t : ℕ) (d : DevId) (f : ℕ) → Owes plan v (stage.Suspend (suspend.Verdict d f)) (suspend_verdict plan v d f t)
unfolding suspend_verdict
suspend_verdict_books plan v t d f = search (either, other) depth 20

suspend_gives_books : (plan : Plan) (v : Views) (d : DevId) (f : ℕ) (x : Option (ℕ × DevId)) → first_held plan v d ≡ x
    → Owes plan v (stage.Suspend (suspend.Links d f)) (suspend_gives v d f x)
suspend_gives_books plan v d f (Some link) e = other tt (λ _ _. refl) tt tt (held_found plan v d link e)
suspend_gives_books plan v d f None e = search (either, other)

suspend_links_books : (plan : Plan) (v : Views) (d : DevId) (f : ℕ) → Owes plan v (stage.Suspend (suspend.Links d f)) (suspend_links plan v d f)
unfolding suspend_links
suspend_links_books plan v d f = suspend_gives_books plan v d f (first_held plan v d) refl

suspend_domain_books : (plan : Plan) (v : Views) (d : DevId) (f : ℕ) → Owes plan v (stage.Suspend (suspend.Domain d f)) (suspend_domain plan v d f)
unfolding suspend_domain
suspend_domain_books plan v d f =
    either (has_domain plan d) (λ _. search other) (λ _. alike (stage.Suspend (suspend.Links d f)) (λ _ _. refl) (suspend_links_books plan v d f))

suspend_parent_books : (plan : Plan) (v : Views) (d : DevId) (f : ℕ) → Owes plan v (stage.Suspend (suspend.Parent d f)) (suspend_parent plan v d f)
unfolding suspend_parent
suspend_parent_books plan v d f = search (either, other)

-- whether it goes on, is tried again or is done
ended_claims : (plan : Plan) (d : DevId) (f since : ℕ) (good again : Bool) (c : ℤ)
    → SameClaims plan (stage.Suspend (suspend.Running d f since)) (if good then suspend_goes (suspend.Domain d f) else if again then suspend_goes (suspend.Verdict d f) else suspend_goes (suspend.Done d f c))
ended_claims plan d f since true again c = λ _ _. refl
ended_claims plan d f since false true c = λ _ _. refl
ended_claims plan d f since false false c = λ _ _. refl

suspend_ends_books : (plan : Plan) (v : Views) (t : ℕ) (d : DevId) (f since : ℕ) → Owes plan v (stage.Suspend (suspend.Running d f since)) (suspend_ends plan v d f t)
unfolding suspend_ends
suspend_ends_books plan v t d f since =
    other tt (ended_claims plan d f since (int_eq (callback_code plan v cb.Suspend d) (pos 0)) _ _) tt tt tt

suspend_books : (plan : Plan) (v : Views) (t : ℕ) (s : SuspendStage) → Owes plan v (stage.Suspend s) (suspend_row plan v s t)
suspend_books plan v t (suspend.Enter d f) = search other
suspend_books plan v t (suspend.Verdict d f) = suspend_verdict_books plan v t d f
suspend_books plan v t (suspend.Waiting d f) =
    either (is_moving v d) (λ _. waiting) (λ _. alike (stage.Suspend (suspend.Verdict d f)) (λ _ _. refl) (suspend_verdict_books plan v t d f))
suspend_books plan v t (suspend.Running d f since) = suspend_ends_books plan v t d f since
suspend_books plan v t (suspend.Domain d f) = suspend_domain_books plan v d f
suspend_books plan v t (suspend.Links d f) = suspend_links_books plan v d f
suspend_books plan v t (suspend.Deferred d f) = search other
suspend_books plan v t (suspend.Parent d f) = suspend_parent_books plan v d f
suspend_books plan v t (suspend.Done d f c) = search other

-- resume
leaves_claims : (plan : Plan) (r : ResumeCall) (c : ℤ) (w : Why) (x : DevId) → weigh (claims plan w x) (shown (leaves plan r c)) ≡ one (has_claim plan w x r)
unfolding leaves
leaves_claims plan r c w x = go (r.held && has_parent plan r.dev)
  where
    go : (b : Bool) → weigh (claims plan w x) (shown (if b then resume_goes (resume.Parent r c) else back c)) ≡ one (b && (is_same x (parent_of plan r.dev) && is_why w (why.Child r.dev)))
    go true = refl
    go false = refl

returns_books : {plan : Plan} {v : Views} {s : Stage} (r : ResumeCall) (c : ℤ) (x : Change) → IsCalm v x
    → ((w : Why) (d : DevId) → claims plan w d s ≡ one (has_claim plan w d r)) → Owes plan v s (resume_returns plan r c x)
returns_books {plan} r c x calm same = other tt (λ w d. leaves_claims plan r c w d ∙ sym (same w d)) calm tt tt

-- the mark held is set
marks : (held parent same : Bool) → parent && not held ≡ true → one ((true && parent) && same) ≡ one ((held && parent) && same) + one same
marks held false same e = absurd (false≢true e)
marks true true same e = absurd (false≢true e)
marks false true same e = omega arith

resume_verdict_books : (plan : Plan) (v : Views) (r : ResumeCall) (tried : Bool) → Owes plan v (stage.Resume (resume.Verdict r tried)) (resume_verdict plan v r tried)
unfolding resume_verdict
resume_verdict_books plan v r tried =
    let d = r.dev in
    let f = r.flags in
    either (has_error v d) (λ _. search returns_books) (λ _.
    either (is_disabled v d && is_active v d && (device v d).last_active) (λ _. search returns_books) (λ _.
    either (is_disabled v d) (λ _. search returns_books) (λ _.
    either (is_active v d) (λ _. search returns_books) (λ _.
    either (is_suspending v d && may_not_wait f) (λ _. search other) (λ _.
    either (is_resuming v d && may_not_wait f) (λ _. search returns_books) (λ _.
    either (is_moving v d) (λ _. search other) (λ _.
    either (has f ASYNC) (λ _. search other) (λ _.
    either (has_parent plan d && not r.held) (λ has. took (parent_of plan d) (why.Child d) tt tt (λ w x. marks r.held (has_parent plan d) (is_same x (parent_of plan d) && is_why w (why.Child d)) has)) (λ _.
    either (minds_parent plan v d && not tried) (λ _. search other) (λ _.
    either (awaits_parent plan v d) (λ _. search returns_books) (λ _.
    either (no_callbacks plan d) (λ _. search other) (λ _.
    search other))))))))))))

takes_books : (plan : Plan) (v : Views) (t : ℕ) (r : ResumeCall) (x : Option (ℕ × DevId)) → first_free plan v r.dev ≡ x
    → Owes plan v (stage.Resume (resume.Links r)) (resume_takes plan v r t x)
takes_books plan v t r (Some link) e = other tt (λ _ _. refl) tt tt (free_found plan v r.dev link e)
takes_books plan v t r None e = either (has_domain plan r.dev) (λ _. search other) (λ _. search other)

links_books : (plan : Plan) (v : Views) (t : ℕ) (r : ResumeCall) → Owes plan v (stage.Resume (resume.Links r)) (resume_links plan v r t)
unfolding resume_links
links_books plan v t r = takes_books plan v t r (first_free plan v r.dev) refl

gives_books : (plan : Plan) (v : Views) (r : ResumeCall) (c : ℤ) (x : Option (ℕ × DevId)) → first_held plan v r.dev ≡ x
    → Owes plan v (stage.Resume (resume.Unwind r c)) (resume_gives v r c x)
gives_books plan v r c (Some link) e = other tt (λ _ _. refl) tt tt (held_found plan v r.dev link e)
gives_books plan v r c None e = search other

unwinds_books : (plan : Plan) (v : Views) (r : ResumeCall) (c : ℤ) → Owes plan v (stage.Resume (resume.Unwind r c)) (resume_unwinds plan v r c)
unfolding resume_unwinds
unwinds_books plan v r c = gives_books plan v r c (first_held plan v r.dev) refl

resume_ends_books : (plan : Plan) (v : Views) (r : ResumeCall) (since : ℕ) → Owes plan v (stage.Resume (resume.Running r since)) (resume_ends plan v r)
unfolding resume_ends
resume_ends_books plan v r since = either (int_eq (callback_code plan v cb.Resume r.dev) (pos 0)) (λ _. search other) (λ _. search other)

resume_domain_books : (plan : Plan) (v : Views) (r : ResumeCall) (c : ℤ) → Owes plan v (stage.Resume (resume.Domain r c)) (resume_domain plan v r c)
unfolding resume_domain
resume_domain_books plan v r c =
    either (has_domain plan r.dev) (λ _. search other) (λ _. alike (stage.Resume (resume.Unwind r c)) (λ _ _. refl) (unwinds_books plan v r c))

resume_books : (plan : Plan) (v : Views) (t : ℕ) (s : ResumeStage) → Owes plan v (stage.Resume s) (resume_row plan v s t)
resume_books plan v t (resume.Enter r) = search other
resume_books plan v t (resume.Verdict r tried) = resume_verdict_books plan v r tried
resume_books plan v t (resume.Waiting r tried) =
    either (is_moving v r.dev) (λ _. waiting) (λ _. alike (stage.Resume (resume.Verdict r tried)) (λ _ _. refl) (resume_verdict_books plan v r tried))
resume_books plan v t (resume.Links r) = links_books plan v t r
resume_books plan v t (resume.Supplied r c) =
    either (is_supplied c) (λ _. alike (stage.Resume (resume.Links r)) (λ _ _. refl) (links_books plan v t r))
    (λ _. alike (stage.Resume (resume.Unwind r c)) (λ _ _. refl) (unwinds_books plan v r c))
resume_books plan v t (resume.Callback r) = search other
resume_books plan v t (resume.Running r since) = resume_ends_books plan v r since
resume_books plan v t (resume.Resumed r) = search other
resume_books plan v t (resume.Idle r) = search other
resume_books plan v t (resume.Done r c) = search returns_books
resume_books plan v t (resume.Parent r c) = gave (parent_of plan r.dev) (why.Child r.dev) tt tt (λ _ _. omega arith)
resume_books plan v t (resume.Domain r c) = resume_domain_books plan v r c
resume_books plan v t (resume.Unwind r c) = unwinds_books plan v r c

-- the other helpers, work items and timers
calls_books : (plan : Plan) (v : Views) (t : ℕ) (h : Helper) (d : DevId) (n : ℤ)
    → Owes plan v (stage.Helper (at.Call (command h d n))) (writes (event.Call (command h d n)) change.Same (begins (command h d n) t))
calls_books plan v t helper.Resume d n = search other
calls_books plan v t _ d n = search other

works_books : (plan : Plan) (v : Views) (d : DevId) (r : Req) → Owes plan v (stage.Helper (at.Work d)) (writes (event.Work d (Run r)) change.Same (carries_out d r))
works_books plan v d req.Nothing = search other
works_books plan v d _ = search other

fires_books : (plan : Plan) (v : Views) (d : DevId) → Owes plan v (stage.Helper (at.Timer d)) (timer_fires v d)
unfolding timer_fires
fires_books plan v d = search other

helper_starts_books : (plan : Plan) (v : Views) (h : Helper) (d : DevId) (n : ℤ) → Owes plan v (stage.Helper (at.Start (command h d n))) (helper_starts v (command h d n))
unfolding helper_starts
helper_starts_books plan v helper.GetIfInUse d n = search (either, other) depth 12
helper_starts_books plan v helper.GetIfActive d n = search (either, other) depth 12
helper_starts_books plan v helper.Put d n = search (either, other) depth 12
helper_starts_books plan v helper.PutSync d n = search (either, other) depth 12
helper_starts_books plan v helper.PutAutosuspend d n = search (either, other) depth 12
helper_starts_books plan v helper.PutSyncSuspend d n = search (either, other) depth 12
helper_starts_books plan v helper.PutSyncAutosuspend d n = search (either, other) depth 12
helper_starts_books plan v helper.PutNoidle d n = search (either, other) depth 12
helper_starts_books plan v _ d n = search other

put_suspends_books : (plan : Plan) (v : Views) (c : Command) → Owes plan v (stage.Helper (at.PutSuspends c)) (put_suspends plan v c)
unfolding put_suspends
put_suspends_books plan v c = search (either, other)

helper_books : (plan : Plan) (v : Views) (t : ℕ) (s : HelperStage) → Owes plan v (stage.Helper s) (helper_row plan v s t)
helper_books plan v t (at.Call c) = calls_books plan v t c.helper c.dev c.number
helper_books plan v t (at.Work d) = works_books plan v d (pending_of v d).request
helper_books plan v t (at.Timer d) = fires_books plan v d
helper_books plan v t (at.Start c) = helper_starts_books plan v c.helper c.dev c.number
helper_books plan v t (at.PutSuspends c) = put_suspends_books plan v c
helper_books plan v t (at.Delay ms since) = search other
helper_books plan v t (at.Ret h d c) = search other

-- the control functions
enabling_books : (plan : Plan) (v : Views) (d : DevId) (x : Command) → Owes plan v (stage.Control (control.Start x)) (enabling v d)
unfolding enabling
enabling_books plan v d x = search (either, other)

disabling_books : (plan : Plan) (v : Views) (d : DevId) → Owes plan v (stage.Control (control.Disable d)) (disabling v d)
unfolding disabling
disabling_books plan v d = search (either, other)

disable_starts_books : (plan : Plan) (v : Views) (d : DevId) (x : Command) → Owes plan v (stage.Control (control.Start x)) (disable_starts v d)
unfolding disable_starts
disable_starts_books plan v d x =
    either (not (is_disabled v d) && asks_resume v d) (λ _. took d why.Control tt tt (λ _ _. omega arith)) (λ _. alike (stage.Control (control.Disable d)) (λ _ _. refl) (disabling_books plan v d))

disable_ends_books : (plan : Plan) (v : Views) (d : DevId) → Owes plan v (stage.Control (control.Disabled d)) (disable_ends v d)
unfolding disable_ends
disable_ends_books plan v d = search (either, waiting, other)

barrier_idles_books : (plan : Plan) (v : Views) (d : DevId) (c : ℤ) → Owes plan v (stage.Control (control.BarrierIdle d c)) (barrier_idles v d c)
unfolding barrier_idles
barrier_idles_books plan v d c = either (busy v d) (λ _. search other) (λ _. gave d why.Control tt tt (λ _ _. omega arith))

barrier_resumes_books : (plan : Plan) (v : Views) (d : DevId) → Owes plan v (stage.Control (control.BarrierResume d)) (barrier_resumes plan v d)
unfolding barrier_resumes
barrier_resumes_books plan v d =
    either (asks_resume v d) (λ _. search other) (λ _. alike (stage.Control (control.BarrierIdle d (pos 0))) (λ _ _. refl) (barrier_idles_books plan v d (pos 0)))

barrier_ends_books : (plan : Plan) (v : Views) (d : DevId) (c : ℤ) → Owes plan v (stage.Control (control.BarrierWait d c)) (barrier_ends v d c)
unfolding barrier_ends
barrier_ends_books plan v d c = either (busy v d) (λ _. waiting) (λ _. gave d why.Control tt tt (λ _ _. omega arith))

active_starts_books : (plan : Plan) (v : Views) (d : DevId) (x : Command) → Owes plan v (stage.Control (control.Start x)) (active_starts plan v d)
unfolding active_starts
active_starts_books plan v d x = search (either, other) depth 12

active_gives_books : (plan : Plan) (v : Views) (d : DevId) (c : ℤ) (x : Option (ℕ × DevId)) → first_held plan v d ≡ x
    → Owes plan v (stage.Control (control.ActiveUnwind d c)) (active_gives d c x)
active_gives_books plan v d c (Some link) e = other tt (λ _ _. refl) tt tt (held_found plan v d link e)
active_gives_books plan v d c None e = search other

active_unwinds_books : (plan : Plan) (v : Views) (d : DevId) (c : ℤ) → Owes plan v (stage.Control (control.ActiveUnwind d c)) (active_unwinds plan v d c)
unfolding active_unwinds
active_unwinds_books plan v d c = active_gives_books plan v d c (first_held plan v d) refl

active_takes_books : (plan : Plan) (v : Views) (d : DevId) (x : Option (ℕ × DevId)) → first_free plan v d ≡ x
    → Owes plan v (stage.Control (control.ActiveLinks d)) (active_takes plan v d x)
active_takes_books plan v d (Some link) e = other tt (λ _ _. refl) tt tt (free_found plan v d link e)
active_takes_books plan v d None e =
    either (awaits_parent plan v d) (λ _. alike (stage.Control (control.ActiveUnwind d EBUSY)) (λ _ _. refl) (active_unwinds_books plan v d EBUSY)) (λ _. search other)

active_links_books : (plan : Plan) (v : Views) (d : DevId) → Owes plan v (stage.Control (control.ActiveLinks d)) (active_links plan v d)
unfolding active_links
active_links_books plan v d = active_takes_books plan v d (first_free plan v d) refl

suspended_starts_books : (plan : Plan) (v : Views) (d : DevId) (x : Command) → Owes plan v (stage.Control (control.Start x)) (suspended_starts v d)
unfolding suspended_starts
suspended_starts_books plan v d x = search (either, other)

tells_books : (plan : Plan) (v : Views) (d : DevId) (last : Option DevId) (x : Option (ℕ × DevId)) → Owes plan v (stage.Control (control.SuppliersIdle d last)) (tells_supplier plan v d x)
tells_books plan v d last (Some link) = search other
tells_books plan v d last None = search (either, other)

suppliers_books : (plan : Plan) (v : Views) (d : DevId) (last : Option DevId) → Owes plan v (stage.Control (control.SuppliersIdle d last)) (suppliers_idle plan v d last)
unfolding suppliers_idle
suppliers_books plan v d last = tells_books plan v d last (next_supplier plan v d last)

not_off : (b : Bool) → not b ≡ false → b ≡ true
not_off true e = refl
not_off false e = absurd (false≢true (sym e))

forbidding_books : (plan : Plan) (v : Views) (d : DevId) (x : Command) → Owes plan v (stage.Control (control.Start x)) (forbidding v d)
unfolding forbidding
forbidding_books plan v d x = either (not (device v d).auto_on) (λ _. search other) (λ on. other tt (λ _ _. refl) tt (not_off _ on) tt)

allowing_books : (plan : Plan) (v : Views) (d : DevId) (x : Command) → Owes plan v (stage.Control (control.Start x)) (allowing v d)
unfolding allowing
allowing_books plan v d x = either (device v d).auto_on (λ _. search other) (λ is. other tt (λ _ _. refl) tt is tt)

turns_on : (was is : Bool) → not was && is ≡ true → (was ≡ false) × (is ≡ true)
turns_on false true e = (refl, refl)
turns_on false false e = absurd (false≢true e)
turns_on true is e = absurd (false≢true e)

turns_off : (was is : Bool) → was && not is ≡ true → (was ≡ true) × (is ≡ false)
turns_off true false e = (refl, refl)
turns_off true true e = absurd (false≢true e)
turns_off false is e = absurd (false≢true e)

stays_true : (was is : Bool) → was && is ≡ true → was ≡ is
stays_true true true e = refl
stays_true true false e = absurd (false≢true e)
stays_true false is e = absurd (false≢true e)

stays_else : (was is : Bool) → not was && is ≡ false → was && not is ≡ false → was ≡ is
stays_else true true p q = refl
stays_else true false p q = absurd (false≢true (sym q))
stays_else false true p q = absurd (false≢true (sym p))
stays_else false false p q = refl

sets_books : (plan : Plan) (v : Views) (x : Command) (h : Helper) (d : DevId) (u : Bool) (n : ℤ) → Owes plan v (stage.Control (control.Start x)) (sets plan v h d u n)
unfolding sets
sets_books plan v x h d u n =
    let was = prevented (device v d).use_auto (device v d).delay in
    let is = prevented u n in
    either (not was && is) (λ more. let turned = turns_on was is more in other tt (λ _ _. refl) (refl, turned.0, turned.1) tt tt) (λ no_more.
    either (was && is) (λ both_hold. other tt (λ _ _. refl) (stays_true was is both_hold) tt tt) (λ _.
    either (was && not is) (λ less. let turned = turns_off was is less in other tt (λ _ _. refl) (refl, turned.0, turned.1) tt tt) (λ no_less.
    other tt (λ _ _. refl) (stays_else was is no_more no_less) tt tt)))

schedules_books : (plan : Plan) (v : Views) (t : ℕ) (x : Command) (d : DevId) (ms : ℕ) → Owes plan v (stage.Control (control.Start x)) (schedules plan v d ms t)
unfolding schedules
schedules_books plan v t x d ms = search (either, other) depth 12

link_adds_books : (plan : Plan) (v : Views) (x : Command) (c s : DevId) → Owes plan v (stage.Control (control.Start x)) (link_adds plan v c s)
unfolding link_adds
link_adds_books plan v x c s = search (either, other) depth 12

link_dels_books : (plan : Plan) (v : Views) (x : Command) (c s : DevId) → Owes plan v (stage.Control (control.Start x)) (link_dels plan v c s)
unfolding link_dels
link_dels_books plan v x c s =
    either (not (may_be_absent plan c s) || not (is_pair_in plan c s v.present)) (λ _. search other) (λ _.
    either (busy v c) (λ _. search other) (λ _.
    either (is_pair_in plan c s v.held) (λ has. other tt (λ _ _. refl) tt tt has) (λ _.
    search other)))

control_starts_books : (plan : Plan) (v : Views) (t : ℕ) (h : Helper) (d : DevId) (n : ℤ)
    → Owes plan v (stage.Control (control.Start (command h d n))) (control_starts plan v (command h d n) t)
unfolding control_starts
control_starts_books plan v t helper.ScheduleSuspend d n = schedules_books plan v t (command helper.ScheduleSuspend d n) d (nat_abs n)
control_starts_books plan v t helper.Enable d n = enabling_books plan v d (command helper.Enable d n)
control_starts_books plan v t helper.Disable d n = disable_starts_books plan v d (command helper.Disable d n)
control_starts_books plan v t helper.Barrier d n = took d why.Control tt tt (λ _ _. omega arith)
control_starts_books plan v t helper.SetActive d n = active_starts_books plan v d (command helper.SetActive d n)
control_starts_books plan v t helper.SetSuspended d n = suspended_starts_books plan v d (command helper.SetSuspended d n)
control_starts_books plan v t helper.Allow d n = allowing_books plan v d (command helper.Allow d n)
control_starts_books plan v t helper.Forbid d n = forbidding_books plan v d (command helper.Forbid d n)
control_starts_books plan v t helper.MarkLastBusy d n = search other
control_starts_books plan v t helper.UseAutosuspend d n = sets_books plan v (command helper.UseAutosuspend d n) helper.UseAutosuspend d true (device v d).delay
control_starts_books plan v t helper.DontUseAutosuspend d n = sets_books plan v (command helper.DontUseAutosuspend d n) helper.DontUseAutosuspend d false (device v d).delay
control_starts_books plan v t helper.SetAutosuspendDelay d n = sets_books plan v (command helper.SetAutosuspendDelay d n) helper.SetAutosuspendDelay d (device v d).use_auto n
control_starts_books plan v t helper.IgnoreChildren d n = search other
control_starts_books plan v t helper.LinkAdd d n = link_adds_books plan v (command helper.LinkAdd d n) d (record { 0 = nat_abs n })
control_starts_books plan v t helper.LinkDel d n = link_dels_books plan v (command helper.LinkDel d n) d (record { 0 = nat_abs n })
control_starts_books plan v t _ d n = search other

control_books : (plan : Plan) (v : Views) (t : ℕ) (s : ControlStage) → Owes plan v (stage.Control s) (control_row plan v s t)
control_books plan v t (control.Start c) = control_starts_books plan v t c.helper c.dev c.number
control_books plan v t (control.DisablePut d) = gave d why.Control tt tt (λ _ _. omega arith)
control_books plan v t (control.Disable d) = disabling_books plan v d
control_books plan v t (control.Disabled d) = disable_ends_books plan v d
control_books plan v t (control.BarrierResume d) = barrier_resumes_books plan v d
control_books plan v t (control.BarrierIdle d c) = barrier_idles_books plan v d c
control_books plan v t (control.BarrierWait d c) = barrier_ends_books plan v d c
control_books plan v t (control.ActiveLinks d) = active_links_books plan v d
control_books plan v t (control.ActiveUnwind d c) = active_unwinds_books plan v d c
control_books plan v t (control.SuppliersIdle d last) = suppliers_books plan v d last

-- each row of the call table pays what it owes
same_row : (plan : Plan) (v : Views) (s : Stage) (x r : Row) → Some x ≡ Some r → Owes plan v s x → Owes plan v s r
same_row plan v s x r e o = let same : x ≡ r = cc in subst (Owes plan v s) same o

pub row_books : (plan : Plan) (v : Views) (t : ℕ) (s : Stage) (r : Row) → row plan v s t ≡ Some r → Owes plan v s r
row_books plan v t (stage.Idle s) r e = same_row plan v (stage.Idle s) _ r e (idle_books plan v t s)
row_books plan v t (stage.Suspend s) r e = same_row plan v (stage.Suspend s) _ r e (suspend_books plan v t s)
row_books plan v t (stage.Resume s) r e = same_row plan v (stage.Resume s) _ r e (resume_books plan v t s)
row_books plan v t (stage.Helper s) r e = same_row plan v (stage.Helper s) _ r e (helper_books plan v t s)
row_books plan v t (stage.Control s) r e = same_row plan v (stage.Control s) _ r e (control_books plan v t s)
row_books plan v t (stage.Await s) r e = cc
