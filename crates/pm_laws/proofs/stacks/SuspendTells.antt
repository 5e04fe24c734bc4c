-- The rows of suspend and of idle tell what is the plan's.
use Rattle.std.proofs.Common.{ℕ, ◌≡◌, true, Option, Some, None, length, nat_lt, refl}
use Rattle.pm_base.specs.declared.DevId.{DevId}
use Rattle.pm_model.specs.declared.plan.Plan.{Plan}
use Rattle.pm_model.specs.declared.stage.IdleStage.{IdleStage}
use Rattle.pm_model.specs.declared.stage.IdleStage.TheVariants as idle
use Rattle.pm_model.specs.declared.stage.Stage.TheVariants as stage
use Rattle.pm_model.specs.declared.stage.SuspendStage.{SuspendStage}
use Rattle.pm_model.specs.declared.stage.SuspendStage.TheVariants as suspend
use Rattle.pm_model.specs.Derived.{first_held}
use Rattle.pm_model.specs.IdleTable.{idle_verdict, idle_ends, after_put, idle_row}
use Rattle.pm_model.specs.Row.{Row}
use Rattle.pm_model.specs.SuspendTable.{suspend_row, suspend_verdict, suspend_ends, suspend_gives, suspend_links, suspend_domain, suspend_parent}
use Rattle.pm_model.specs.Views.{Views}
use Rattle.pm_model.specs.WellFormed.{is_in, idle_device, suspend_device}
use Rattle.pm_laws.specs.stacks.Fit.{code_at, idle_flags, is_result, suspend_flags}
use Rattle.pm_laws.proofs.stacks.Found.{held_is}
use Rattle.pm_laws.proofs.stacks.Obeying.{Obeys, ok, waiting, either, both, both_next}
use Rattle.pm_laws.proofs.stacks.PlanLaw.{parent_in, supplier_in}
use Rattle.pm_laws.proofs.stacks.SuspendNests.{tells_has}
use Rattle.pm_laws.proofs.stacks.Telling.{Telling, auto_small, callback_result, flags_told, no_time, refusal_result, request_told, this_time}

abbrev Tells : Plan → Views → ℕ → Row → Type 0
Tells plan v t row = Obeys (Telling plan v t) row

verdict_tells : (plan : Plan) (v : Views) (t : ℕ) (d : DevId) (f : ℕ) → is_in (length plan.devices) d ≡ true → nat_lt f 16 ≡ true
    → Tells plan v t (suspend_verdict plan v d f t)
unfolding suspend_verdict
verdict_tells plan v t d f inside small = search (both, ok, refusal_result, request_told, no_time, this_time) depth 40

ends_tell : (plan : Plan) (v : Views) (t : ℕ) (d : DevId) (f : ℕ) → is_in (length plan.devices) d ≡ true → nat_lt f 16 ≡ true
    → Tells plan v t (suspend_ends plan v d f t)
unfolding suspend_ends
ends_tell plan v t d f inside small = search (both_next, ok, callback_result, no_time) depth 20

gives_tell : (plan : Plan) (v : Views) (t : ℕ) (d : DevId) (f : ℕ) (x : Option (ℕ × DevId)) → is_in (length plan.devices) d ≡ true → nat_lt f 16 ≡ true
    → first_held plan v d ≡ x → Tells plan v t (suspend_gives v d f x)
gives_tell plan v t d f (Some link) inside small e = let lent = supplier_in plan link.0 d link.1 (held_is plan v d link e) in search (ok, no_time) depth 20
gives_tell plan v t d f None inside small e = search (both, ok, no_time) depth 20

links_tell : (plan : Plan) (v : Views) (t : ℕ) (d : DevId) (f : ℕ) → is_in (length plan.devices) d ≡ true → nat_lt f 16 ≡ true
    → Tells plan v t (suspend_links plan v d f)
unfolding suspend_links
links_tell plan v t d f inside small = gives_tell plan v t d f (first_held plan v d) inside small refl

domain_tells : (plan : Plan) (v : Views) (t : ℕ) (d : DevId) (f : ℕ) → is_in (length plan.devices) d ≡ true → nat_lt f 16 ≡ true
    → Tells plan v t (suspend_domain plan v d f)
unfolding suspend_domain
domain_tells plan v t d f inside small = search (both, ok, links_tell, no_time) depth 20

parent_tells : (plan : Plan) (v : Views) (t : ℕ) (d : DevId) (f : ℕ) → is_in (length plan.devices) d ≡ true → nat_lt f 16 ≡ true
    → Tells plan v t (suspend_parent plan v d f)
unfolding suspend_parent
parent_tells plan v t d f inside small = search (either, ok, tells_has, parent_in, flags_told, no_time) depth 20

pub suspend_tells : (plan : Plan) (v : Views) (t : ℕ) (s : SuspendStage) → is_in (length plan.devices) (suspend_device s) ≡ true
    → nat_lt (suspend_flags s) 16 ≡ true → is_result (code_at (stage.Suspend s)) ≡ true → Obeys (Telling plan v t) (suspend_row plan v s t)
suspend_tells plan v t (suspend.Enter d f) inside small good = search (ok, flags_told, no_time) depth 12
suspend_tells plan v t (suspend.Verdict d f) inside small good = verdict_tells plan v t d f inside small
suspend_tells plan v t (suspend.Waiting d f) inside small good = both _ waiting (verdict_tells plan v t d f inside small)
suspend_tells plan v t (suspend.Running d f since) inside small good = ends_tell plan v t d f inside small
suspend_tells plan v t (suspend.Domain d f) inside small good = domain_tells plan v t d f inside small
suspend_tells plan v t (suspend.Links d f) inside small good = links_tell plan v t d f inside small
suspend_tells plan v t (suspend.Deferred d f) inside small good = search (ok, flags_told, no_time) depth 12
suspend_tells plan v t (suspend.Parent d f) inside small good = parent_tells plan v t d f inside small
suspend_tells plan v t (suspend.Done d f c) inside small good = search ok depth 12

-- idle
idle_verdict_tells : (plan : Plan) (v : Views) (t : ℕ) (d : DevId) (f : ℕ) → is_in (length plan.devices) d ≡ true → nat_lt f 16 ≡ true
    → Tells plan v t (idle_verdict plan v d f t)
unfolding idle_verdict
idle_verdict_tells plan v t d f inside small = search (both, ok, refusal_result, auto_small, no_time, this_time) depth 40

after_put_tells : (plan : Plan) (v : Views) (t : ℕ) (d : DevId) (f : ℕ) → is_in (length plan.devices) d ≡ true → nat_lt f 16 ≡ true
    → Tells plan v t (after_put plan v d f)
unfolding after_put
after_put_tells plan v t d f inside small = search (both, ok, flags_told, no_time) depth 12

pub idle_tells : (plan : Plan) (v : Views) (t : ℕ) (s : IdleStage) → is_in (length plan.devices) (idle_device s) ≡ true → nat_lt (idle_flags s) 16 ≡ true
    → is_result (code_at (stage.Idle s)) ≡ true → Obeys (Telling plan v t) (idle_row plan v s t)
unfolding idle_ends
idle_tells plan v t (idle.Enter d f) inside small good = search (ok, flags_told, no_time) depth 12
idle_tells plan v t (idle.Verdict d f) inside small good = idle_verdict_tells plan v t d f inside small
idle_tells plan v t (idle.Running d f since) inside small good = search (ok, callback_result, no_time) depth 12
idle_tells plan v t (idle.Done d f c) inside small good = search (both_next, ok, auto_small, no_time) depth 12
idle_tells plan v t (idle.Queued d f) inside small good = search ok depth 12
idle_tells plan v t (idle.AfterPut d f) inside small good = after_put_tells plan v t d f inside small
