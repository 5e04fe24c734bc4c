-- The rows of the control functions.
use Rattle.std.proofs.Common.{ℕ, ◌≡◌, Bool, true, false, not, ◌&&◌, ◌||◌, Option, Some, None, ℤ, pos, nat_eq, refl, sym, arith}
use Rattle.std.specs.Ordering.{int_eq}
use Rattle.std.proofs.lemmas.Bool.{false≢true}
use Rattle.pm_base.specs.declared.DevId.{DevId}
use Rattle.pm_base.specs.declared.Status.TheVariants as status
use Rattle.pm_base.specs.declared.Why.TheVariants as why
use Rattle.pm_base.specs.declared.codes.TheConstants.{EBUSY}
use Rattle.pm_model.specs.declared.event.Command.{Command}
use Rattle.pm_model.specs.declared.event.Helper.{Helper}
use Rattle.pm_model.specs.declared.event.Helper.TheVariants as helper
use Rattle.pm_model.specs.declared.plan.Plan.{Plan}
use Rattle.pm_model.specs.declared.stage.ControlStage.{ControlStage}
use Rattle.pm_model.specs.declared.stage.ControlStage.TheVariants as control
use Rattle.pm_model.specs.declared.stage.Stage.TheVariants as stage
use Rattle.pm_model.specs.ControlTable.{enabling, disabling, disable_starts, disable_ends, barrier_idles, barrier_resumes, barrier_ends, may_not_force, forces_active, active_starts, active_gives, active_unwinds, active_takes, active_links, suspended_starts, tells_supplier, suppliers_idle, forbidding, allowing, sets, schedules, may_be_absent, is_pair_in, link_adds, link_dels, control_starts, control_row}
use Rattle.pm_model.specs.Derived.{refusal, has_error, is_disabled, is_active, is_suspended, is_moving, asks_resume, awaits_parent, busy, prevented, first_held, first_free, next_supplier, has_link}
use Rattle.pm_model.specs.SuspendTable.{tells_parent}
use Rattle.pm_model.specs.Views.{Views, device}
use Rattle.pm_laws.proofs.counts.Accounts.{quiet, turn}
use Rattle.pm_laws.proofs.counts.Givings.{took_stages, gave_stages, took_forbid, gave_forbid, took_link, gave_link, took_delay, gave_delay, forced}
use Rattle.pm_laws.proofs.counts.HelperRows.{command}
use Rattle.pm_laws.proofs.counts.Links.{neither, held_found, free_found, link_calls}
use Rattle.pm_laws.proofs.counts.Owning.{stays_still, begins_resume, ends_resume}
use Rattle.pm_laws.proofs.counts.Rows.{Known, Owes, either, alike, waiting}

off : (b : Bool) → not b ≡ false → b ≡ true
off true e = refl
off false e = absurd (false≢true (sym e))

-- enable and disable
enabling_keeps : (plan : Plan) (v : Views) (t : ℕ) (d : DevId) (n : ℤ) → Known plan v
    → Owes plan v t (stage.Control (control.Start (command helper.Enable d n))) (enabling v d)
unfolding enabling
enabling_keeps plan v t d n k = either (not (is_disabled v d)) (λ _. search quiet) (λ _. search quiet)

disabling_keeps : (plan : Plan) (v : Views) (t : ℕ) (d : DevId) → Known plan v → Owes plan v t (stage.Control (control.Disable d)) (disabling v d)
unfolding disabling
disabling_keeps plan v t d k =
    either (is_disabled v d) (λ _. search quiet) (λ _.
    either (busy v d) (λ _. search quiet) (λ _.
    search quiet))

disable_starts_keep : (plan : Plan) (v : Views) (t : ℕ) (d : DevId) (n : ℤ) → Known plan v
    → Owes plan v t (stage.Control (control.Start (command helper.Disable d n))) (disable_starts v d)
unfolding disable_starts
disable_starts_keep plan v t d n k =
    either (not (is_disabled v d) && asks_resume v d) (λ _. took_stages d why.Control k tt tt (λ _. (refl, refl)) (λ _. omega arith))
    (λ _. alike (stage.Control (control.Disable d)) (λ _. (refl, refl)) (λ _. refl) (disabling_keeps plan v t d k))

disable_ends_keep : (plan : Plan) (v : Views) (t : ℕ) (d : DevId) → Known plan v
    → Owes plan v t (stage.Control (control.Disabled d)) (disable_ends v d)
unfolding disable_ends
disable_ends_keep plan v t d k = either (busy v d) (λ _. waiting) (λ _. either (is_disabled v d) (λ _. search quiet) (λ _. search quiet))

-- barrier
barrier_idles_keep : (plan : Plan) (v : Views) (t : ℕ) (d : DevId) (c : ℤ) → Known plan v
    → Owes plan v t (stage.Control (control.BarrierIdle d c)) (barrier_idles v d c)
unfolding barrier_idles
barrier_idles_keep plan v t d c k =
    either (busy v d) (λ _. search quiet) (λ _. gave_stages d why.Control k tt tt (λ _. (refl, refl)) (λ _. omega arith))

barrier_resumes_keep : (plan : Plan) (v : Views) (t : ℕ) (d : DevId) → Known plan v
    → Owes plan v t (stage.Control (control.BarrierResume d)) (barrier_resumes plan v d)
unfolding barrier_resumes
barrier_resumes_keep plan v t d k =
    either (asks_resume v d) (λ _. search quiet) (λ _. alike (stage.Control (control.BarrierIdle d (pos 0))) (λ _. (refl, refl)) (λ _. refl) (barrier_idles_keep plan v t d (pos 0) k))

barrier_ends_keep : (plan : Plan) (v : Views) (t : ℕ) (d : DevId) (c : ℤ) → Known plan v
    → Owes plan v t (stage.Control (control.BarrierWait d c)) (barrier_ends v d c)
unfolding barrier_ends
barrier_ends_keep plan v t d c k = either (busy v d) (λ _. waiting) (λ _. gave_stages d why.Control k tt tt (λ _. (refl, refl)) (λ _. omega arith))

-- set_active
may_force : (v : Views) (d : DevId) → may_not_force v d ≡ false → is_moving v d ≡ false
unfolding busy
may_force v d e = (neither (is_moving v d) (device v d).idle_running (neither (not (has_error v d) && not (is_disabled v d)) (busy v d) e).1).0

forces_keep : (plan : Plan) (v : Views) (t : ℕ) (d : DevId) (n : ℤ) → Known plan v → is_moving v d ≡ false
    → Owes plan v t (stage.Control (control.Start (command helper.SetActive d n))) (forces_active d)
forces_keep plan v t d n k still = turn k tt tt (stays_still d status.Active still refl (λ _. refl) (λ _. (refl, refl)) (λ _. (refl, refl))) (λ _. refl)

active_starts_keep : (plan : Plan) (v : Views) (t : ℕ) (d : DevId) (n : ℤ) → Known plan v
    → Owes plan v t (stage.Control (control.Start (command helper.SetActive d n))) (active_starts plan v d)
unfolding active_starts
active_starts_keep plan v t d n k =
    either (may_not_force v d) (λ _. search quiet) (λ may.
    either (is_active v d) (λ _. forces_keep plan v t d n k (may_force v d may)) (λ _.
    either (has_link plan v d) (λ has. turn k tt tt (begins_resume d (may_force v d may) (link_calls plan v d has) (λ _. refl) (λ _. (refl, refl)) (λ _. (refl, refl))) (λ _. refl)) (λ _.
    either (awaits_parent plan v d) (λ _. search quiet) (λ _. forces_keep plan v t d n k (may_force v d may)))))

gives_keep : (plan : Plan) (v : Views) (t : ℕ) (d : DevId) (c : ℤ) → Known plan v → (x : Option (ℕ × DevId)) → first_held plan v d ≡ x
    → Owes plan v t (stage.Control (control.ActiveUnwind d c)) (active_gives d c x)
gives_keep plan v t d c k (Some link) e = gave_link d link.1 k tt (held_found plan v d link e) (λ _. (refl, refl)) (λ _. refl)
gives_keep plan v t d c k None e = turn k tt tt (ends_resume d status.Suspended refl (λ _. refl) (λ _. (refl, refl)) (λ _. (refl, refl))) (λ _. refl)

unwinds_keep : (plan : Plan) (v : Views) (t : ℕ) (d : DevId) (c : ℤ) → Known plan v
    → Owes plan v t (stage.Control (control.ActiveUnwind d c)) (active_unwinds plan v d c)
unfolding active_unwinds
unwinds_keep plan v t d c k = gives_keep plan v t d c k (first_held plan v d) refl

takes_keep : (plan : Plan) (v : Views) (t : ℕ) (d : DevId) → Known plan v → (x : Option (ℕ × DevId)) → first_free plan v d ≡ x
    → Owes plan v t (stage.Control (control.ActiveLinks d)) (active_takes plan v d x)
takes_keep plan v t d k (Some link) e = took_link d link.1 k (free_found plan v d link e) (λ _. (refl, refl)) (λ _. refl)
takes_keep plan v t d k None e =
    either (awaits_parent plan v d) (λ _. alike (stage.Control (control.ActiveUnwind d EBUSY)) (λ _. (refl, refl)) (λ _. refl) (unwinds_keep plan v t d EBUSY k))
    (λ _. turn k tt tt (ends_resume d status.Active refl (λ _. refl) (λ _. (refl, refl)) (λ _. (refl, refl))) (λ _. refl))

links_keep : (plan : Plan) (v : Views) (t : ℕ) (d : DevId) → Known plan v
    → Owes plan v t (stage.Control (control.ActiveLinks d)) (active_links plan v d)
unfolding active_links
links_keep plan v t d k = takes_keep plan v t d k (first_free plan v d) refl

-- set_suspended
suspended_starts_keep : (plan : Plan) (v : Views) (t : ℕ) (d : DevId) (n : ℤ) → Known plan v
    → Owes plan v t (stage.Control (control.Start (command helper.SetSuspended d n))) (suspended_starts v d)
unfolding suspended_starts
suspended_starts_keep plan v t d n k =
    either (may_not_force v d) (λ _. search quiet) (λ may. forced d k (may_force v d may) (λ _. (refl, refl)) (λ _. (refl, refl)) (λ _. refl))

tells_keep : (plan : Plan) (v : Views) (t : ℕ) (d : DevId) (last : Option DevId) → Known plan v → (x : Option (ℕ × DevId))
    → Owes plan v t (stage.Control (control.SuppliersIdle d last)) (tells_supplier plan v d x)
tells_keep plan v t d last k (Some link) = search quiet
tells_keep plan v t d last k None = either (tells_parent plan v d) (λ _. search quiet) (λ _. search quiet)

suppliers_keep : (plan : Plan) (v : Views) (t : ℕ) (d : DevId) (last : Option DevId) → Known plan v
    → Owes plan v t (stage.Control (control.SuppliersIdle d last)) (suppliers_idle plan v d last)
unfolding suppliers_idle
suppliers_keep plan v t d last k = tells_keep plan v t d last k (next_supplier plan v d last)

-- forbid and allow
forbidding_keeps : (plan : Plan) (v : Views) (t : ℕ) (d : DevId) (n : ℤ) → Known plan v
    → Owes plan v t (stage.Control (control.Start (command helper.Forbid d n))) (forbidding v d)
unfolding forbidding
forbidding_keeps plan v t d n k = either (not (device v d).auto_on) (λ _. search quiet) (λ on. took_forbid d k (off _ on) (λ _. (refl, refl)) (λ _. refl))

allowing_keeps : (plan : Plan) (v : Views) (t : ℕ) (d : DevId) (n : ℤ) → Known plan v
    → Owes plan v t (stage.Control (control.Start (command helper.Allow d n))) (allowing v d)
unfolding allowing
allowing_keeps plan v t d n k = either (device v d).auto_on (λ _. search quiet) (λ is. gave_forbid d k is (λ _. (refl, refl)) (λ _. refl))

-- the settings
alike_true : (was is : Bool) → was && is ≡ true → was ≡ is
alike_true true true e = refl
alike_true true false e = absurd (false≢true e)
alike_true false is e = absurd (false≢true e)

alike_else : (was is : Bool) → not was && is ≡ false → was && not is ≡ false → was ≡ is
alike_else true true p q = refl
alike_else true false p q = absurd (false≢true (sym q))
alike_else false true p q = absurd (false≢true (sym p))
alike_else false false p q = refl

sets_keep : (plan : Plan) (v : Views) (t : ℕ) (c : Command) (h : Helper) (d : DevId) (u : Bool) (n : ℤ) → Known plan v
    → Owes plan v t (stage.Control (control.Start c)) (sets plan v h d u n)
unfolding sets
sets_keep plan v t c h d u n k =
    let was = prevented (device v d).use_auto (device v d).delay in
    let is = prevented u n in
    either (not was && is) (λ more. took_delay d u n k more (λ _. (refl, refl)) (λ _. refl)) (λ no_more.
    either (was && is) (λ both_hold. quiet k tt (alike_true was is both_hold) (λ _. (refl, refl)) (λ _. refl)) (λ _.
    either (was && not is) (λ less. gave_delay d u n k less (λ _. (refl, refl)) (λ _. refl)) (λ no_less.
    quiet k tt (alike_else was is no_more no_less) (λ _. (refl, refl)) (λ _. refl))))

schedules_keep : (plan : Plan) (v : Views) (t : ℕ) (c : Command) (d : DevId) (ms : ℕ) → Known plan v
    → Owes plan v t (stage.Control (control.Start c)) (schedules plan v d ms t)
unfolding schedules
schedules_keep plan v t c d ms k =
    either (nat_eq ms 0) (λ _. search quiet) (λ _.
    either (not (int_eq (refusal plan v d) (pos 0))) (λ _. search quiet) (λ _. search quiet))

-- the links
link_adds_keep : (plan : Plan) (v : Views) (t : ℕ) (x : Command) (c s : DevId) → Known plan v
    → Owes plan v t (stage.Control (control.Start x)) (link_adds plan v c s)
unfolding link_adds
link_adds_keep plan v t x c s k =
    either (not (may_be_absent plan c s) || is_pair_in plan c s v.present) (λ _. search quiet) (λ _.
    either (not (is_suspended v c) || busy v c) (λ _. search quiet) (λ _.
    search quiet))

link_dels_keep : (plan : Plan) (v : Views) (t : ℕ) (x : Command) (c s : DevId) → Known plan v
    → Owes plan v t (stage.Control (control.Start x)) (link_dels plan v c s)
unfolding link_dels
link_dels_keep plan v t x c s k =
    either (not (may_be_absent plan c s) || not (is_pair_in plan c s v.present)) (λ _. search quiet) (λ _.
    either (busy v c) (λ _. search quiet) (λ _.
    either (is_pair_in plan c s v.held) (λ has. gave_link c s k tt has (λ _. (refl, refl)) (λ _. refl)) (λ _.
    search quiet)))

starts_keep : (plan : Plan) (v : Views) (t : ℕ) (h : Helper) (d : DevId) (n : ℤ) → Known plan v
    → Owes plan v t (stage.Control (control.Start (command h d n))) (control_starts plan v (command h d n) t)
unfolding control_starts
starts_keep plan v t helper.Barrier d n k = took_stages d why.Control k tt tt (λ _. (refl, refl)) (λ _. omega arith)
starts_keep plan v t _ d n k =
    search (enabling_keeps, disable_starts_keep, active_starts_keep, suspended_starts_keep, allowing_keeps, forbidding_keeps, sets_keep, schedules_keep, link_adds_keep, link_dels_keep, quiet)

pub control_keeps : (plan : Plan) (v : Views) (t : ℕ) (s : ControlStage) → Known plan v → Owes plan v t (stage.Control s) (control_row plan v s t)
control_keeps plan v t (control.Start c) k = starts_keep plan v t c.helper c.dev c.number k
control_keeps plan v t (control.DisablePut d) k = gave_stages d why.Control k tt tt (λ _. (refl, refl)) (λ _. omega arith)
control_keeps plan v t (control.Disable d) k = disabling_keeps plan v t d k
control_keeps plan v t (control.Disabled d) k = disable_ends_keep plan v t d k
control_keeps plan v t (control.BarrierResume d) k = barrier_resumes_keep plan v t d k
control_keeps plan v t (control.BarrierIdle d c) k = barrier_idles_keep plan v t d c k
control_keeps plan v t (control.BarrierWait d c) k = barrier_ends_keep plan v t d c k
control_keeps plan v t (control.ActiveLinks d) k = links_keep plan v t d k
control_keeps plan v t (control.ActiveUnwind d c) k = unwinds_keep plan v t d c k
control_keeps plan v t (control.SuppliersIdle d last) k = suppliers_keep plan v t d last k
