-- The rows of resume: alike on views that agree, and in the region.
use Rattle.std.proofs.Common.{ℕ, ◌≡◌, Bool, true, Option, Some, None, ℤ, refl}
use Rattle.pm_base.specs.declared.Cb.TheVariants as cb
use Rattle.pm_base.specs.declared.DevId.{DevId}
use Rattle.pm_model.specs.declared.plan.Plan.{Plan}
use Rattle.pm_model.specs.declared.stage.Change.{Change}
use Rattle.pm_model.specs.declared.stage.ResumeCall.{ResumeCall}
use Rattle.pm_model.specs.declared.stage.ResumeStage.{ResumeStage}
use Rattle.pm_model.specs.declared.stage.ResumeStage.TheVariants as resume
use Rattle.pm_model.specs.Derived.{first_held, first_free}
use Rattle.pm_model.specs.PlanRows.{parent_of}
use Rattle.pm_model.specs.ResumeTable.{resume_row, resume_verdict, resume_returns, leaves, resume_takes, resume_links, resume_gives, resume_unwinds, resume_ends, resume_domain}
use Rattle.pm_model.specs.Views.{Views}
use Rattle.pm_model.specs.WellFormed.{resume_device}
use Rattle.pm_laws.proofs.islands.Region.{Region, Agree, ChangeIn, StaysIn}
use Rattle.pm_laws.proofs.islands.ViewsAlike.{device_agrees, minds_agrees, fields_agree, held_agrees, free_agrees, code_agrees, parent_inside}
use Rattle.pm_laws.proofs.islands.DomainsAlike.{up_agrees, down_agrees}
use Rattle.pm_laws.proofs.islands.FoundLinks.{held_in, free_runtime, free_in}
use Rattle.pm_laws.proofs.islands.Staying.{ok, waiting, both, both_next}

verdict_alike : {plan : Plan} {k : Region plan} {v w : Views} (r : ResumeCall) (tried : Bool) → Agree plan k v w → k.inside r.dev.0 ≡ true
    → resume_verdict plan v r tried ≡ resume_verdict plan w r tried
unfolding resume_verdict
verdict_alike {plan} {k} {v} {w} r tried a i =
    let p = parent_inside plan k r.dev i in
    rw (minds_agrees r.dev a i, device_agrees r.dev a i, device_agrees (parent_of plan r.dev) a p, fields_agree (parent_of plan r.dev) 0 a p) refl

takes_alike : {plan : Plan} {k : Region plan} {v w : Views} (r : ResumeCall) (t : ℕ) (x : Option (ℕ × DevId)) → Agree plan k v w → k.inside r.dev.0 ≡ true
    → resume_takes plan v r t x ≡ resume_takes plan w r t x
takes_alike r t (Some link) a i = refl
takes_alike r t None a i = rw (up_agrees r.dev a i) refl

links_alike : {plan : Plan} {k : Region plan} {v w : Views} (r : ResumeCall) (t : ℕ) → Agree plan k v w → k.inside r.dev.0 ≡ true
    → resume_links plan v r t ≡ resume_links plan w r t
unfolding resume_links
links_alike {plan} {k} {v} {w} r t a i = rw (free_agrees r.dev a i) (takes_alike r t (first_free plan w r.dev) a i)

gives_alike : (v w : Views) (r : ResumeCall) (c : ℤ) (x : Option (ℕ × DevId)) → resume_gives v r c x ≡ resume_gives w r c x
gives_alike v w r c (Some link) = refl
gives_alike v w r c None = refl

unwinds_alike : {plan : Plan} {k : Region plan} {v w : Views} (r : ResumeCall) (c : ℤ) → Agree plan k v w → k.inside r.dev.0 ≡ true
    → resume_unwinds plan v r c ≡ resume_unwinds plan w r c
unfolding resume_unwinds
unwinds_alike {plan} {k} {v} {w} r c a i = rw (held_agrees r.dev a i) (gives_alike v w r c (first_held plan w r.dev))

ends_alike : {plan : Plan} {k : Region plan} {v w : Views} (r : ResumeCall) → Agree plan k v w → k.inside r.dev.0 ≡ true → resume_ends plan v r ≡ resume_ends plan w r
unfolding resume_ends
ends_alike r a i = rw (code_agrees cb.Resume r.dev a i) refl

domain_alike : {plan : Plan} {k : Region plan} {v w : Views} (r : ResumeCall) (c : ℤ) → Agree plan k v w → k.inside r.dev.0 ≡ true
    → resume_domain plan v r c ≡ resume_domain plan w r c
unfolding resume_domain
domain_alike r c a i = rw (down_agrees r.dev a i, unwinds_alike r c a i) refl

pub resume_alike : {plan : Plan} {k : Region plan} {v w : Views} (t : ℕ) (s : ResumeStage) → Agree plan k v w → k.inside (resume_device s).0 ≡ true → resume_row plan v s t ≡ resume_row plan w s t
resume_alike t (resume.Enter r) a i = rw (fields_agree r.dev r.flags a i) refl
resume_alike t (resume.Verdict r tried) a i = verdict_alike r tried a i
resume_alike t (resume.Waiting r tried) a i = rw (device_agrees r.dev a i, verdict_alike r tried a i) refl
resume_alike t (resume.Links r) a i = links_alike r t a i
resume_alike t (resume.Supplied r c) a i = rw (links_alike r t a i, unwinds_alike r c a i) refl
resume_alike t (resume.Callback r) a i = refl
resume_alike t (resume.Running r since) a i = ends_alike r a i
resume_alike t (resume.Resumed r) a i = refl
resume_alike t (resume.Idle r) a i = rw (fields_agree r.dev 1 a i) refl
resume_alike t (resume.Done r c) a i = refl
resume_alike t (resume.Parent r c) a i = refl
resume_alike t (resume.Domain r c) a i = domain_alike r c a i
resume_alike t (resume.Unwind r c) a i = unwinds_alike r c a i

-- and in the region
returns_stay : (plan : Plan) (k : Region plan) (r : ResumeCall) (c : ℤ) (change : Change) → k.inside r.dev.0 ≡ true → ChangeIn k change
    → StaysIn plan k (resume_returns plan r c change)
unfolding leaves
returns_stay plan k r c change i local = search (both_next, ok) depth 20

verdict_stays : (plan : Plan) (k : Region plan) (v : Views) (r : ResumeCall) (tried : Bool) → k.inside r.dev.0 ≡ true → StaysIn plan k (resume_verdict plan v r tried)
unfolding resume_verdict
verdict_stays plan k v r tried i = let p = parent_inside plan k r.dev i in search (both, returns_stay, ok) depth 40

takes_stay : (plan : Plan) (k : Region plan) (v : Views) (r : ResumeCall) (t : ℕ) (x : Option (ℕ × DevId)) → k.inside r.dev.0 ≡ true → first_free plan v r.dev ≡ x
    → StaysIn plan k (resume_takes plan v r t x)
takes_stay plan k v r t (Some link) i e = let s = free_in plan k v r.dev link i e in let q = free_runtime plan v r.dev link e in search ok depth 20
takes_stay plan k v r t None i e = search (both, ok) depth 20

links_stay : (plan : Plan) (k : Region plan) (v : Views) (r : ResumeCall) (t : ℕ) → k.inside r.dev.0 ≡ true → StaysIn plan k (resume_links plan v r t)
unfolding resume_links
links_stay plan k v r t i = takes_stay plan k v r t (first_free plan v r.dev) i refl

gives_stay : (plan : Plan) (k : Region plan) (v : Views) (r : ResumeCall) (c : ℤ) (x : Option (ℕ × DevId)) → k.inside r.dev.0 ≡ true → first_held plan v r.dev ≡ x
    → StaysIn plan k (resume_gives v r c x)
gives_stay plan k v r c (Some link) i e = let s = held_in plan k v r.dev link i e in search ok depth 20
gives_stay plan k v r c None i e = search ok depth 20

unwinds_stay : (plan : Plan) (k : Region plan) (v : Views) (r : ResumeCall) (c : ℤ) → k.inside r.dev.0 ≡ true → StaysIn plan k (resume_unwinds plan v r c)
unfolding resume_unwinds
unwinds_stay plan k v r c i = gives_stay plan k v r c (first_held plan v r.dev) i refl

ends_stay : (plan : Plan) (k : Region plan) (v : Views) (r : ResumeCall) → k.inside r.dev.0 ≡ true → StaysIn plan k (resume_ends plan v r)
unfolding resume_ends
ends_stay plan k v r i = search (both, ok) depth 20

domain_stays : (plan : Plan) (k : Region plan) (v : Views) (r : ResumeCall) (c : ℤ) → k.inside r.dev.0 ≡ true → StaysIn plan k (resume_domain plan v r c)
unfolding resume_domain
domain_stays plan k v r c i = search (both, ok, unwinds_stay) depth 20

pub resume_stays : (plan : Plan) (k : Region plan) (v : Views) (t : ℕ) (s : ResumeStage) → k.inside (resume_device s).0 ≡ true → StaysIn plan k (resume_row plan v s t)
resume_stays plan k v t (resume.Enter r) i = search ok depth 20
resume_stays plan k v t (resume.Verdict r tried) i = verdict_stays plan k v r tried i
resume_stays plan k v t (resume.Waiting r tried) i = search (both, waiting, verdict_stays) depth 20
resume_stays plan k v t (resume.Links r) i = links_stay plan k v r t i
resume_stays plan k v t (resume.Supplied r c) i = search (both, links_stay, unwinds_stay) depth 20
resume_stays plan k v t (resume.Callback r) i = search ok depth 20
resume_stays plan k v t (resume.Running r since) i = ends_stay plan k v r i
resume_stays plan k v t (resume.Resumed r) i = search ok depth 20
resume_stays plan k v t (resume.Idle r) i = search ok depth 20
resume_stays plan k v t (resume.Done r c) i = search returns_stay depth 20
resume_stays plan k v t (resume.Parent r c) i = search (ok, parent_inside) depth 20
resume_stays plan k v t (resume.Domain r c) i = domain_stays plan k v r c i
resume_stays plan k v t (resume.Unwind r c) i = unwinds_stay plan k v r c i
