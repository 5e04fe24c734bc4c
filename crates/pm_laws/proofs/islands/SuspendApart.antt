-- The rows of suspend: alike on views that agree, and in the region.
use Rattle.std.proofs.Common.{ℕ, ◌≡◌, true, Option, Some, None, ℤ, refl}
use Rattle.pm_base.specs.declared.Cb.TheVariants as cb
use Rattle.pm_base.specs.declared.DevId.{DevId}
use Rattle.pm_model.specs.declared.event.Event.TheVariants as event
use Rattle.pm_model.specs.declared.plan.Plan.{Plan}
use Rattle.pm_model.specs.declared.stage.SuspendStage.{SuspendStage}
use Rattle.pm_model.specs.declared.stage.SuspendStage.TheVariants as suspend
use Rattle.pm_model.specs.ChangeViews.{suspend_ended}
use Rattle.pm_model.specs.Derived.{first_held, callback_code, expiry}
use Rattle.pm_model.specs.Events.{by_event}
use Rattle.pm_model.specs.PlanRows.{parent_of}
use Rattle.pm_model.specs.SuspendTable.{suspend_row, suspend_verdict, suspend_ends, suspend_gives, suspend_links, suspend_domain, suspend_parent, autosuspend_at}
use Rattle.pm_model.specs.Views.{Views}
use Rattle.pm_model.specs.WellFormed.{suspend_device}
use Rattle.pm_laws.proofs.islands.Region.{Region, Agree, StaysIn}
use Rattle.pm_laws.proofs.islands.ViewsAlike.{device_agrees, pending_agrees, timer_agrees, refusal_agrees, expiry_agrees, fields_agree, held_agrees, code_agrees, parent_inside}
use Rattle.pm_laws.proofs.islands.DomainsAlike.{down_agrees}
use Rattle.pm_laws.proofs.islands.LocalEvents.{event_moves}
use Rattle.pm_laws.proofs.islands.FoundLinks.{held_in}
use Rattle.pm_laws.proofs.islands.LocalChanges.{local_ended}
use Rattle.pm_laws.proofs.islands.Staying.{ok, waiting, both, both_next}

verdict_alike : {plan : Plan} {k : Region plan} {v w : Views} (d : DevId) (f t : ℕ) → Agree plan k v w → k.inside d.0 ≡ true
    → suspend_verdict plan v d f t ≡ suspend_verdict plan w d f t
unfolding suspend_verdict autosuspend_at
verdict_alike d f t a i =
    rw (device_agrees d a i, timer_agrees d a i, refusal_agrees d a i, expiry_agrees d a i) refl

gives_alike : {plan : Plan} {k : Region plan} {v w : Views} (d : DevId) (f : ℕ) (x : Option (ℕ × DevId)) → Agree plan k v w → k.inside d.0 ≡ true
    → suspend_gives v d f x ≡ suspend_gives w d f x
gives_alike d f (Some link) a i = refl
gives_alike d f None a i = rw (pending_agrees d a i) refl

links_alike : {plan : Plan} {k : Region plan} {v w : Views} (d : DevId) (f : ℕ) → Agree plan k v w → k.inside d.0 ≡ true
    → suspend_links plan v d f ≡ suspend_links plan w d f
unfolding suspend_links
links_alike {plan} {k} {v} {w} d f a i = rw (held_agrees d a i) (gives_alike d f (first_held plan w d) a i)

domain_alike : {plan : Plan} {k : Region plan} {v w : Views} (d : DevId) (f : ℕ) → Agree plan k v w → k.inside d.0 ≡ true
    → suspend_domain plan v d f ≡ suspend_domain plan w d f
unfolding suspend_domain
domain_alike d f a i = rw (down_agrees d a i, links_alike d f a i) refl

parent_alike : {plan : Plan} {k : Region plan} {v w : Views} (d : DevId) (f : ℕ) → Agree plan k v w → k.inside d.0 ≡ true
    → suspend_parent plan v d f ≡ suspend_parent plan w d f
unfolding suspend_parent
parent_alike {plan} {k} {v} {w} d f a i =
    let p = parent_inside plan k d i in
    rw (device_agrees (parent_of plan d) a p, fields_agree (parent_of plan d) 1 a p) refl

-- the expiry after the callback
after_alike : {plan : Plan} {k : Region plan} {v w : Views} (d : DevId) (c : ℤ) (t : ℕ) → Agree plan k v w → k.inside d.0 ≡ true
    → expiry (by_event plan t (event.End d cb.Suspend c) (suspend_ended plan d c t v)) d ≡ expiry (by_event plan t (event.End d cb.Suspend c) (suspend_ended plan d c t w)) d
after_alike {plan} {k} {v} {w} d c t a i =
    let ended = local_ended {plan = plan} {k = k} d c t i in
    let moved = event_moves {plan = plan} {k = k} t (event.End d cb.Suspend c) i in
    expiry_agrees d (moved.keeps _ _ (ended.keeps v w a)) i

ends_alike : {plan : Plan} {k : Region plan} {v w : Views} (d : DevId) (f t : ℕ) → Agree plan k v w → k.inside d.0 ≡ true
    → suspend_ends plan v d f t ≡ suspend_ends plan w d f t
unfolding suspend_ends
ends_alike {plan} {k} {v} {w} d f t a i =
    rw (code_agrees cb.Suspend d a i, after_alike d (callback_code plan w cb.Suspend d) t a i) refl

pub suspend_alike : {plan : Plan} {k : Region plan} {v w : Views} (t : ℕ) (s : SuspendStage) → Agree plan k v w → k.inside (suspend_device s).0 ≡ true → suspend_row plan v s t ≡ suspend_row plan w s t
suspend_alike t (suspend.Enter d f) a i = rw (fields_agree d f a i) refl
suspend_alike t (suspend.Verdict d f) a i = verdict_alike d f t a i
suspend_alike t (suspend.Waiting d f) a i = rw (device_agrees d a i, verdict_alike d f t a i) refl
suspend_alike t (suspend.Running d f since) a i = ends_alike d f t a i
suspend_alike t (suspend.Domain d f) a i = domain_alike d f a i
suspend_alike t (suspend.Links d f) a i = links_alike d f a i
suspend_alike t (suspend.Deferred d f) a i = rw (fields_agree d 0 a i) refl
suspend_alike t (suspend.Parent d f) a i = parent_alike d f a i
suspend_alike t (suspend.Done d f c) a i = refl

-- and in the region
verdict_stays : (plan : Plan) (k : Region plan) (v : Views) (d : DevId) (f t : ℕ) → k.inside d.0 ≡ true → StaysIn plan k (suspend_verdict plan v d f t)
unfolding suspend_verdict
verdict_stays plan k v d f t i = search (both, ok) depth 40

gives_stay : (plan : Plan) (k : Region plan) (v : Views) (d : DevId) (f : ℕ) (x : Option (ℕ × DevId)) → k.inside d.0 ≡ true → first_held plan v d ≡ x
    → StaysIn plan k (suspend_gives v d f x)
gives_stay plan k v d f (Some link) i e = let s = held_in plan k v d link i e in search ok depth 20
gives_stay plan k v d f None i e = search (both, ok) depth 20

links_stay : (plan : Plan) (k : Region plan) (v : Views) (d : DevId) (f : ℕ) → k.inside d.0 ≡ true → StaysIn plan k (suspend_links plan v d f)
unfolding suspend_links
links_stay plan k v d f i = gives_stay plan k v d f (first_held plan v d) i refl

domain_stays : (plan : Plan) (k : Region plan) (v : Views) (d : DevId) (f : ℕ) → k.inside d.0 ≡ true → StaysIn plan k (suspend_domain plan v d f)
unfolding suspend_domain
domain_stays plan k v d f i = search (both, ok, links_stay) depth 20

parent_stays : (plan : Plan) (k : Region plan) (v : Views) (d : DevId) (f : ℕ) → k.inside d.0 ≡ true → StaysIn plan k (suspend_parent plan v d f)
unfolding suspend_parent
parent_stays plan k v d f i = search (both, ok, parent_inside) depth 20

ends_stay : (plan : Plan) (k : Region plan) (v : Views) (d : DevId) (f t : ℕ) → k.inside d.0 ≡ true → StaysIn plan k (suspend_ends plan v d f t)
unfolding suspend_ends
ends_stay plan k v d f t i = search (both_next, ok) depth 20

pub suspend_stays : (plan : Plan) (k : Region plan) (v : Views) (t : ℕ) (s : SuspendStage) → k.inside (suspend_device s).0 ≡ true → StaysIn plan k (suspend_row plan v s t)
suspend_stays plan k v t (suspend.Enter d f) i = search ok depth 20
suspend_stays plan k v t (suspend.Verdict d f) i = verdict_stays plan k v d f t i
suspend_stays plan k v t (suspend.Waiting d f) i = search (both, waiting, verdict_stays) depth 20
suspend_stays plan k v t (suspend.Running d f since) i = ends_stay plan k v d f t i
suspend_stays plan k v t (suspend.Domain d f) i = domain_stays plan k v d f i
suspend_stays plan k v t (suspend.Links d f) i = links_stay plan k v d f i
suspend_stays plan k v t (suspend.Deferred d f) i = search ok depth 20
suspend_stays plan k v t (suspend.Parent d f) i = parent_stays plan k v d f i
suspend_stays plan k v t (suspend.Done d f c) i = search ok depth 20
