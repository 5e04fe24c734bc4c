-- The rows of idle: alike on views that agree, and in the region.
use Rattle.std.proofs.Common.{ℕ, ◌≡◌, true, refl}
use Rattle.pm_base.specs.declared.Cb.TheVariants as cb
use Rattle.pm_base.specs.declared.DevId.{DevId}
use Rattle.pm_model.specs.declared.plan.Plan.{Plan}
use Rattle.pm_model.specs.declared.stage.IdleStage.{IdleStage}
use Rattle.pm_model.specs.declared.stage.IdleStage.TheVariants as idle
use Rattle.pm_model.specs.IdleTable.{idle_row, idle_verdict, idle_ends, after_put}
use Rattle.pm_model.specs.Views.{Views}
use Rattle.pm_model.specs.WellFormed.{idle_device}
use Rattle.pm_laws.proofs.islands.Region.{Region, Agree, StaysIn}
use Rattle.pm_laws.proofs.islands.ViewsAlike.{device_agrees, pending_agrees, refusal_agrees, fields_agree, code_agrees}
use Rattle.pm_laws.proofs.islands.Staying.{ok, both, both_next}

verdict_alike : {plan : Plan} {k : Region plan} {v w : Views} (d : DevId) (f t : ℕ) → Agree plan k v w → k.inside d.0 ≡ true
    → idle_verdict plan v d f t ≡ idle_verdict plan w d f t
unfolding idle_verdict
verdict_alike d f t a i = rw (device_agrees d a i, pending_agrees d a i, refusal_agrees d a i) refl

ends_alike : {plan : Plan} {k : Region plan} {v w : Views} (d : DevId) (f t : ℕ) → Agree plan k v w → k.inside d.0 ≡ true → idle_ends plan v d f t ≡ idle_ends plan w d f t
unfolding idle_ends
ends_alike d f t a i = rw (code_agrees cb.Idle d a i) refl

after_put_alike : {plan : Plan} {k : Region plan} {v w : Views} (d : DevId) (f : ℕ) → Agree plan k v w → k.inside d.0 ≡ true → after_put plan v d f ≡ after_put plan w d f
unfolding after_put
after_put_alike d f a i = rw (device_agrees d a i, fields_agree d f a i) refl

pub idle_alike : {plan : Plan} {k : Region plan} {v w : Views} (t : ℕ) (s : IdleStage) → Agree plan k v w → k.inside (idle_device s).0 ≡ true → idle_row plan v s t ≡ idle_row plan w s t
idle_alike t (idle.Enter d f) a i = rw (fields_agree d f a i) refl
idle_alike t (idle.Verdict d f) a i = verdict_alike d f t a i
idle_alike t (idle.Running d f since) a i = ends_alike d f t a i
idle_alike t (idle.Done d f c) a i = refl
idle_alike t (idle.Queued d f) a i = refl
idle_alike t (idle.AfterPut d f) a i = after_put_alike d f a i

verdict_stays : (plan : Plan) (k : Region plan) (v : Views) (d : DevId) (f t : ℕ) → k.inside d.0 ≡ true → StaysIn plan k (idle_verdict plan v d f t)
unfolding idle_verdict
verdict_stays plan k v d f t i = search (both, ok) depth 40

ends_stay : (plan : Plan) (k : Region plan) (v : Views) (d : DevId) (f t : ℕ) → k.inside d.0 ≡ true → StaysIn plan k (idle_ends plan v d f t)
unfolding idle_ends
ends_stay plan k v d f t i = search ok depth 20

after_put_stays : (plan : Plan) (k : Region plan) (v : Views) (d : DevId) (f : ℕ) → k.inside d.0 ≡ true → StaysIn plan k (after_put plan v d f)
unfolding after_put
after_put_stays plan k v d f i = search (both, ok) depth 20

pub idle_stays : (plan : Plan) (k : Region plan) (v : Views) (t : ℕ) (s : IdleStage) → k.inside (idle_device s).0 ≡ true → StaysIn plan k (idle_row plan v s t)
idle_stays plan k v t (idle.Enter d f) i = search ok depth 20
idle_stays plan k v t (idle.Verdict d f) i = verdict_stays plan k v d f t i
idle_stays plan k v t (idle.Running d f since) i = ends_stay plan k v d f t i
idle_stays plan k v t (idle.Done d f c) i = search (both_next, ok) depth 20
idle_stays plan k v t (idle.Queued d f) i = search ok depth 20
idle_stays plan k v t (idle.AfterPut d f) i = after_put_stays plan k v d f i
