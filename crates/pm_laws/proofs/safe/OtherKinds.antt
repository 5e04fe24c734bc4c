-- The rows of idle, of the helpers and of the control functions, by kinds.
use Rattle.std.proofs.Common.{ℕ, ◌≡◌, true, false, not, ◌&&◌, ◌||◌, Option, Some, None, ℤ, pos, int_lt, refl}
use Rattle.std.specs.Ordering.{int_eq}
use Rattle.pm_base.specs.declared.DevId.{DevId}
use Rattle.pm_base.specs.declared.Req.{Req}
use Rattle.pm_base.specs.declared.Req.TheVariants as req
use Rattle.pm_base.specs.declared.codes.TheConstants.{ASYNC, EBUSY}
use Rattle.pm_model.specs.declared.event.Command.{Command}
use Rattle.pm_model.specs.declared.event.Event.TheVariants as event
use Rattle.pm_model.specs.declared.event.Helper.{Helper}
use Rattle.pm_model.specs.declared.event.Helper.TheVariants as helper
use Rattle.pm_model.specs.declared.event.Word.TheVariants as word
use Rattle.pm_model.specs.declared.event.WorkAct.TheVariants.{Run}
use Rattle.pm_model.specs.declared.plan.Plan.{Plan}
use Rattle.pm_model.specs.declared.stage.Change.TheVariants as change
use Rattle.pm_model.specs.declared.stage.ControlStage.{ControlStage}
use Rattle.pm_model.specs.declared.stage.ControlStage.TheVariants as control
use Rattle.pm_model.specs.declared.stage.HelperStage.{HelperStage}
use Rattle.pm_model.specs.declared.stage.HelperStage.TheVariants as at
use Rattle.pm_model.specs.declared.stage.IdleStage.{IdleStage}
use Rattle.pm_model.specs.declared.stage.IdleStage.TheVariants as idle
use Rattle.pm_model.specs.declared.stage.Stage.{Stage}
use Rattle.pm_model.specs.declared.stage.Stage.TheVariants as stage
use Rattle.pm_model.specs.ControlTable.{enabling, disabling, disable_starts, disable_ends, barrier_idles, barrier_resumes, barrier_ends, may_not_force, active_starts, active_gives, active_unwinds, active_takes, active_links, suspended_starts, tells_supplier, suppliers_idle, forbidding, allowing, sets, schedules, may_be_absent, is_pair_in, link_adds, link_dels, control_starts, control_row}
use Rattle.pm_model.specs.Derived.{refusal, has, has_error, is_disabled, is_active, is_suspended, is_moving, asks_resume, awaits_parent, busy, first_held, first_free, next_supplier, has_link}
use Rattle.pm_model.specs.HelperTable.{begins, helper_starts, put_suspends, carries_out, timer_fires, helper_row}
use Rattle.pm_model.specs.IdleTable.{is_above_idle, idle_row, idle_verdict, idle_ends, after_put, then_suspends}
use Rattle.pm_model.specs.PlanRows.{has_idle}
use Rattle.pm_model.specs.Row.{writes, back}
use Rattle.pm_model.specs.Views.{Views, device, pending_of}
use Rattle.pm_laws.proofs.counts.HelperRows.{command}
use Rattle.pm_laws.proofs.counts.Links.{neither}
use Rattle.pm_laws.specs.safe.Parts.{Phase, setting, unsetting, no_part, part, part_of}
use Rattle.pm_laws.specs.safe.Kinds.{may_give, begins_idle, gives_link, suspends, sets_active, takes_link, forces_again, forces_bare, forces_held, forces_off, adds_link, drops_link, drops_held}
use Rattle.pm_laws.proofs.safe.RowKinds.{Owes, waiting, either, either_leads, of_kind, still}
use Rattle.pm_laws.proofs.safe.SuspendKinds.{off}

-- idle
idle_verdict_kind : (plan : Plan) (v : Views) (t : ℕ) (d : DevId) (f : ℕ) → Owes plan v (stage.Idle (idle.Verdict d f)) (idle_verdict plan v d f t)
unfolding idle_verdict
idle_verdict_kind plan v t d f =
    either (int_lt (refusal plan v d) (pos 0)) (λ _. search still) (λ free.
    either (not (is_active v d)) (λ _. search still) (λ active.
    either (is_above_idle (pending_of v d).request) (λ _. search still) (λ request.
    either (device v d).idle_running (λ _. search still) (λ stands.
    either (not (has_idle plan d)) (λ _. search still) (λ _.
    either (has f ASYNC) (λ _. search still) (λ _.
    of_kind (begins_idle d) refl (λ _ _. refl) refl refl (record { free = free; active = off _ active; request = request; stands = stands })))))))

idle_ends_kind : (plan : Plan) (v : Views) (t : ℕ) (d : DevId) (f since : ℕ) → Owes plan v (stage.Idle (idle.Running d f since)) (idle_ends plan v d f t)
unfolding idle_ends
idle_ends_kind plan v t d f since = search still

after_put_kind : (plan : Plan) (v : Views) (d : DevId) (f : ℕ) → Owes plan v (stage.Idle (idle.AfterPut d f)) (after_put plan v d f)
unfolding after_put
after_put_kind plan v d f = search (either, still)

pub idle_kind : (plan : Plan) (v : Views) (t : ℕ) (s : IdleStage) → Owes plan v (stage.Idle s) (idle_row plan v s t)
idle_kind plan v t (idle.Enter d f) = search still
idle_kind plan v t (idle.Verdict d f) = idle_verdict_kind plan v t d f
idle_kind plan v t (idle.Running d f since) = idle_ends_kind plan v t d f since
idle_kind plan v t (idle.Done d f c) = still refl (either_leads (int_eq c (pos 0)) (then_suspends d f) (back c) no_part (λ _ _. refl) (λ _ _. refl)) refl
idle_kind plan v t (idle.Queued d f) = search still
idle_kind plan v t (idle.AfterPut d f) = after_put_kind plan v d f

-- helpers
calls_kind : (plan : Plan) (v : Views) (t : ℕ) (h : Helper) (d : DevId) (n : ℤ)
    → Owes plan v (stage.Helper (at.Call (command h d n))) (writes (event.Call (command h d n)) change.Same (begins (command h d n) t))
calls_kind plan v t helper.Resume d n = search still
calls_kind plan v t _ d n = search still

works_kind : (plan : Plan) (v : Views) (d : DevId) (r : Req) → Owes plan v (stage.Helper (at.Work d)) (writes (event.Work d (Run r)) change.Same (carries_out d r))
works_kind plan v d req.Nothing = search still
works_kind plan v d _ = search still

fires_kind : (plan : Plan) (v : Views) (d : DevId) → Owes plan v (stage.Helper (at.Timer d)) (timer_fires v d)
unfolding timer_fires
fires_kind plan v d = search still

starts_kind : (plan : Plan) (v : Views) (h : Helper) (d : DevId) (n : ℤ)
    → Owes plan v (stage.Helper (at.Start (command h d n))) (helper_starts v (command h d n))
unfolding helper_starts
starts_kind plan v helper.GetSync d n = search still
starts_kind plan v _ d n = search (either, still) depth 12

put_suspends_kind : (plan : Plan) (v : Views) (c : Command) → Owes plan v (stage.Helper (at.PutSuspends c)) (put_suspends plan v c)
unfolding put_suspends
put_suspends_kind plan v c = search (either, still)

pub helper_kind : (plan : Plan) (v : Views) (t : ℕ) (s : HelperStage) → Owes plan v (stage.Helper s) (helper_row plan v s t)
helper_kind plan v t (at.Call c) = calls_kind plan v t c.helper c.dev c.number
helper_kind plan v t (at.Work d) = works_kind plan v d (pending_of v d).request
helper_kind plan v t (at.Timer d) = fires_kind plan v d
helper_kind plan v t (at.Start c) = starts_kind plan v c.helper c.dev c.number
helper_kind plan v t (at.PutSuspends c) = put_suspends_kind plan v c
helper_kind plan v t (at.Delay ms since) = search still
helper_kind plan v t (at.Ret h d c) = search still

-- the control functions
disabling_kind : (plan : Plan) (v : Views) (d : DevId) (s : Stage) → part_of s ≡ no_part → Owes plan v s (disabling v d)
unfolding disabling
disabling_kind plan v d s is =
    either (is_disabled v d) (λ _. still refl (rw is (λ _ _. refl)) refl) (λ _.
    either (busy v d) (λ _. still refl (rw is (λ _ _. refl)) refl) (λ _. still refl (rw is (λ _ _. refl)) refl))

disable_starts_kind : (plan : Plan) (v : Views) (d : DevId) (x : Command) → Owes plan v (stage.Control (control.Start x)) (disable_starts v d)
unfolding disable_starts
disable_starts_kind plan v d x = either (not (is_disabled v d) && asks_resume v d) (λ _. search still) (λ _. disabling_kind plan v d (stage.Control (control.Start x)) refl)

disable_ends_kind : (plan : Plan) (v : Views) (d : DevId) → Owes plan v (stage.Control (control.Disabled d)) (disable_ends v d)
unfolding disable_ends
disable_ends_kind plan v d = search (either, waiting, still)

barrier_idles_kind : (plan : Plan) (v : Views) (d : DevId) (c : ℤ) (s : Stage) → part_of s ≡ no_part → Owes plan v s (barrier_idles v d c)
unfolding barrier_idles
barrier_idles_kind plan v d c s is = either (busy v d) (λ _. still refl (rw is (λ _ _. refl)) refl) (λ _. still refl (rw is (λ _ _. refl)) refl)

barrier_resumes_kind : (plan : Plan) (v : Views) (d : DevId) → Owes plan v (stage.Control (control.BarrierResume d)) (barrier_resumes plan v d)
unfolding barrier_resumes
barrier_resumes_kind plan v d = either (asks_resume v d) (λ _. search still) (λ _. barrier_idles_kind plan v d (pos 0) (stage.Control (control.BarrierResume d)) refl)

barrier_ends_kind : (plan : Plan) (v : Views) (d : DevId) (c : ℤ) → Owes plan v (stage.Control (control.BarrierWait d c)) (barrier_ends v d c)
unfolding barrier_ends
barrier_ends_kind plan v d c = search (either, waiting, still)

may_force : (v : Views) (d : DevId) → may_not_force v d ≡ false → is_moving v d ≡ false
unfolding busy
may_force v d e = (neither (is_moving v d) (device v d).idle_running (neither (not (has_error v d) && not (is_disabled v d)) (busy v d) e).1).0

idles : (v : Views) (d : DevId) → busy v d ≡ false → is_moving v d ≡ false
unfolding busy
idles v d e = (neither (is_moving v d) (device v d).idle_running e).0

active_starts_kind : (plan : Plan) (v : Views) (d : DevId) (x : Command) → Owes plan v (stage.Control (control.Start x)) (active_starts plan v d)
unfolding active_starts
active_starts_kind plan v d x =
    either (may_not_force v d) (λ _. search still) (λ may.
    either (is_active v d) (λ is. of_kind (forces_again d) refl (λ _ _. refl) refl refl is) (λ inactive.
    either (has_link plan v d) (λ has. of_kind (sets_active d) refl (λ _ _. refl) refl refl (may_force v d may, inactive)) (λ none.
    either (awaits_parent plan v d) (λ _. search still) (λ ready. of_kind (forces_bare d) refl (λ _ _. refl) refl refl (none, may_force v d may, ready)))))

gives_kind : (plan : Plan) (v : Views) (d : DevId) (c : ℤ) (s : Stage) (x : Phase) → part_of s ≡ part d x → may_give x ≡ true → (o : Option (ℕ × DevId)) → first_held plan v d ≡ o
    → Owes plan v s (active_gives d c o)
gives_kind plan v d c s x is may (Some link) e = of_kind (gives_link d link.1 x unsetting) is (λ _ _. refl) refl refl (may, refl)
gives_kind plan v d c s x is may None e = of_kind (suspends d word.Suspended x) is (λ _ _. refl) refl refl (e, refl, may)

unwinds_kind : (plan : Plan) (v : Views) (d : DevId) (c : ℤ) (s : Stage) (x : Phase) → part_of s ≡ part d x → may_give x ≡ true → Owes plan v s (active_unwinds plan v d c)
unfolding active_unwinds
unwinds_kind plan v d c s x is may = gives_kind plan v d c s x is may (first_held plan v d) refl

takes_kind : (plan : Plan) (v : Views) (d : DevId) (o : Option (ℕ × DevId)) → first_free plan v d ≡ o → Owes plan v (stage.Control (control.ActiveLinks d)) (active_takes plan v d o)
takes_kind plan v d (Some link) e = of_kind (takes_link d link setting) refl (λ _ _. refl) refl refl (e, refl)
takes_kind plan v d None e =
    either (awaits_parent plan v d) (λ _. unwinds_kind plan v d EBUSY (stage.Control (control.ActiveLinks d)) setting refl refl)
    (λ ready. of_kind (forces_held d) refl (λ _ _. refl) refl refl (e, ready))

links_kind : (plan : Plan) (v : Views) (d : DevId) → Owes plan v (stage.Control (control.ActiveLinks d)) (active_links plan v d)
unfolding active_links
links_kind plan v d = takes_kind plan v d (first_free plan v d) refl

suspended_starts_kind : (plan : Plan) (v : Views) (d : DevId) (x : Command) → Owes plan v (stage.Control (control.Start x)) (suspended_starts v d)
unfolding suspended_starts
suspended_starts_kind plan v d x = either (may_not_force v d) (λ _. search still) (λ may. of_kind (forces_off d) refl (λ _ _. refl) refl refl (may_force v d may))

tells_kind : (plan : Plan) (v : Views) (d : DevId) (last : Option DevId) (o : Option (ℕ × DevId)) → Owes plan v (stage.Control (control.SuppliersIdle d last)) (tells_supplier plan v d o)
tells_kind plan v d last (Some link) = search still
tells_kind plan v d last None = search (either, still)

suppliers_kind : (plan : Plan) (v : Views) (d : DevId) (last : Option DevId) → Owes plan v (stage.Control (control.SuppliersIdle d last)) (suppliers_idle plan v d last)
unfolding suppliers_idle
suppliers_kind plan v d last = tells_kind plan v d last (next_supplier plan v d last)

link_adds_kind : (plan : Plan) (v : Views) (c s : DevId) (x : Command) → Owes plan v (stage.Control (control.Start x)) (link_adds plan v c s)
unfolding link_adds
link_adds_kind plan v c s x =
    either (not (may_be_absent plan c s) || is_pair_in plan c s v.present) (λ _. search still) (λ _.
    either (not (is_suspended v c) || busy v c) (λ _. search still) (λ may.
    of_kind (adds_link c s) refl (λ _ _. refl) refl refl (off _ (neither _ _ may).0, idles v c (neither _ _ may).1)))

link_dels_kind : (plan : Plan) (v : Views) (c s : DevId) (x : Command) → Owes plan v (stage.Control (control.Start x)) (link_dels plan v c s)
unfolding link_dels
link_dels_kind plan v c s x =
    either (not (may_be_absent plan c s) || not (is_pair_in plan c s v.present)) (λ _. search still) (λ _.
    either (busy v c) (λ _. search still) (λ _.
    either (is_pair_in plan c s v.held) (λ has. of_kind (drops_held c s) refl (λ _ _. refl) refl refl tt) (λ none.
    of_kind (drops_link c s) refl (λ _ _. refl) refl refl none)))

control_starts_kind : (plan : Plan) (v : Views) (t : ℕ) (h : Helper) (d : DevId) (n : ℤ)
    → Owes plan v (stage.Control (control.Start (command h d n))) (control_starts plan v (command h d n) t)
unfolding control_starts schedules enabling allowing forbidding sets
control_starts_kind plan v t helper.Barrier d n = search still
control_starts_kind plan v t _ d n = search (either, still, disable_starts_kind, active_starts_kind, suspended_starts_kind, link_adds_kind, link_dels_kind) depth 12

pub control_kind : (plan : Plan) (v : Views) (t : ℕ) (s : ControlStage) → Owes plan v (stage.Control s) (control_row plan v s t)
control_kind plan v t (control.Start c) = control_starts_kind plan v t c.helper c.dev c.number
control_kind plan v t (control.DisablePut d) = search still
control_kind plan v t (control.Disable d) = disabling_kind plan v d (stage.Control (control.Disable d)) refl
control_kind plan v t (control.Disabled d) = disable_ends_kind plan v d
control_kind plan v t (control.BarrierResume d) = barrier_resumes_kind plan v d
control_kind plan v t (control.BarrierIdle d c) = barrier_idles_kind plan v d c (stage.Control (control.BarrierIdle d c)) refl
control_kind plan v t (control.BarrierWait d c) = barrier_ends_kind plan v d c
control_kind plan v t (control.ActiveLinks d) = links_kind plan v d
control_kind plan v t (control.ActiveUnwind d c) = unwinds_kind plan v d c (stage.Control (control.ActiveUnwind d c)) unsetting refl refl
control_kind plan v t (control.SuppliersIdle d last) = suppliers_kind plan v d last
