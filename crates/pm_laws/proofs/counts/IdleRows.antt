-- The rows of idle.
use Rattle.std.proofs.Common.{ℕ, not, ℤ, pos, int_lt, refl}
use Rattle.std.specs.Ordering.{int_eq}
use Rattle.pm_base.specs.declared.DevId.{DevId}
use Rattle.pm_base.specs.declared.codes.TheConstants.{ASYNC}
use Rattle.pm_model.specs.declared.plan.Plan.{Plan}
use Rattle.pm_model.specs.declared.stage.IdleStage.{IdleStage}
use Rattle.pm_model.specs.declared.stage.IdleStage.TheVariants as idle
use Rattle.pm_model.specs.declared.stage.Stage.TheVariants as stage
use Rattle.pm_model.specs.Derived.{refusal, is_active, is_in_use, has}
use Rattle.pm_model.specs.IdleTable.{idle_row, idle_verdict, idle_ends, after_put, is_above_idle, then_suspends}
use Rattle.pm_model.specs.PlanRows.{has_idle}
use Rattle.pm_model.specs.Row.{back}
use Rattle.pm_model.specs.Views.{Views, device, pending_of}
use Rattle.pm_laws.proofs.counts.Accounts.{quiet}
use Rattle.pm_laws.proofs.counts.Rows.{Known, Owes, SameOwners, SameHolds, either, either_next}

verdict_keeps : (plan : Plan) (v : Views) (t : ℕ) (d : DevId) (f : ℕ) → Known plan v
    → Owes plan v t (stage.Idle (idle.Verdict d f)) (idle_verdict plan v d f t)
unfolding idle_verdict
verdict_keeps plan v t d f k =
    either (int_lt (refusal plan v d) (pos 0)) (λ _. search quiet) (λ _.
    either (not (is_active v d)) (λ _. search quiet) (λ _.
    either (is_above_idle (pending_of v d).request) (λ _. search quiet) (λ _.
    either (device v d).idle_running (λ _. search quiet) (λ _.
    either (not (has_idle plan d)) (λ _. search quiet) (λ _.
    either (has f ASYNC) (λ _. search quiet) (λ _.
    search quiet))))))

ends_keeps : (plan : Plan) (v : Views) (t : ℕ) (d : DevId) (f since : ℕ) → Known plan v
    → Owes plan v t (stage.Idle (idle.Running d f since)) (idle_ends plan v d f t)
unfolding idle_ends
ends_keeps plan v t d f since k = search quiet

after_put_keeps : (plan : Plan) (v : Views) (t : ℕ) (d : DevId) (f : ℕ) → Known plan v → Owes plan v t (stage.Idle (idle.AfterPut d f)) (after_put plan v d f)
unfolding after_put
after_put_keeps plan v t d f k = either (is_in_use v d) (λ _. search quiet) (λ _. search quiet)

done_keeps : (plan : Plan) (v : Views) (t : ℕ) (d : DevId) (f : ℕ) (c : ℤ) → Known plan v
    → Owes plan v t (stage.Idle (idle.Done d f c)) (idle_row plan v (idle.Done d f c) t)
done_keeps plan v t d f c k =
    let s = stage.Idle (idle.Done d f c) in
    quiet k tt tt (either_next (SameOwners s) (int_eq c (pos 0)) (then_suspends d f) (back c) (λ _. (refl, refl)) (λ _. (refl, refl)))
    (either_next (SameHolds plan s) (int_eq c (pos 0)) (then_suspends d f) (back c) (λ _. refl) (λ _. refl))

pub idle_keeps : (plan : Plan) (v : Views) (t : ℕ) (s : IdleStage) → Known plan v → Owes plan v t (stage.Idle s) (idle_row plan v s t)
idle_keeps plan v t (idle.Enter d f) k = search quiet
idle_keeps plan v t (idle.Verdict d f) k = verdict_keeps plan v t d f k
idle_keeps plan v t (idle.Running d f since) k = ends_keeps plan v t d f since k
idle_keeps plan v t (idle.Done d f c) k = done_keeps plan v t d f c k
idle_keeps plan v t (idle.Queued d f) k = search quiet
idle_keeps plan v t (idle.AfterPut d f) k = after_put_keeps plan v t d f k
