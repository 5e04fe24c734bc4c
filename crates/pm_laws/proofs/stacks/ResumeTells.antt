-- The rows of resume tell what is the plan's.
use Rattle.std.proofs.Common.{ℕ, ◌≡◌, Bool, true, false, not, ◌&&◌, Option, Some, None, ℤ, length, nat_lt, if◌then◌else◌, refl}
use Rattle.pm_base.specs.declared.Cb.TheVariants as cb
use Rattle.pm_base.specs.declared.DevId.{DevId}
use Rattle.pm_model.specs.declared.event.Event.TheVariants as event
use Rattle.pm_model.specs.declared.plan.Plan.{Plan}
use Rattle.pm_model.specs.declared.stage.Change.{Change}
use Rattle.pm_model.specs.declared.stage.ResumeCall.{ResumeCall}
use Rattle.pm_model.specs.declared.stage.ResumeStage.{ResumeStage}
use Rattle.pm_model.specs.declared.stage.ResumeStage.TheVariants as resume
use Rattle.pm_model.specs.declared.stage.Stage.TheVariants as stage
use Rattle.pm_model.specs.Derived.{minds_parent, first_held, first_free}
use Rattle.pm_model.specs.PlanRows.{has_parent, parent_of}
use Rattle.pm_model.specs.ResumeTable.{leaves, resume_returns, resume_verdict, resume_takes, resume_links, resume_gives, resume_unwinds, resume_ends, resume_domain, resume_row}
use Rattle.pm_model.specs.Row.{Row, writes, goes, back}
use Rattle.pm_model.specs.Views.{Views}
use Rattle.pm_model.specs.WellFormed.{is_in, resume_device}
use Rattle.pm_laws.specs.stacks.Fit.{is_result, resume_code}
use Rattle.pm_laws.specs.stacks.Shape.{Fits, resume_call}
use Rattle.pm_laws.proofs.stacks.Found.{held_is, free_is}
use Rattle.pm_laws.proofs.stacks.Obeying.{Obeys, ok, waiting, either, both}
use Rattle.pm_laws.proofs.stacks.PlanLaw.{parent_in, supplier_in}
use Rattle.pm_laws.proofs.stacks.ResumeNests.{minds_has, holds_has}
use Rattle.pm_laws.proofs.stacks.Telling.{IsChanging, Telling, callback_result, either_result, flags_told, no_time, this_time}
use Rattle.pm_laws.proofs.stacks.Tests.{front}

abbrev Tells : Plan → Views → ℕ → Row → Type 0
Tells plan v t row = Obeys (Telling plan v t) row

returns_tell : (plan : Plan) (v : Views) (t : ℕ) (r : ResumeCall) (c : ℤ) (change : Change) → is_in (length plan.devices) r.dev ≡ true → nat_lt r.flags 16 ≡ true
    → is_result c ≡ true → IsChanging plan change → Tells plan v t (resume_returns plan r c change)
unfolding leaves
returns_tell plan v t r c change inside small good is = go (r.held && has_parent plan r.dev)
  where
    go : (b : Bool) → Tells plan v t (writes (event.Return cb.Resume r.dev c) change (if b then goes (stage.Resume (resume.Parent r c)) else back c))
    go true = search (ok, no_time) depth 12
    go false = search ok depth 12

taken_in : (plan : Plan) (d : DevId) (b : Bool) → has_parent plan d && b ≡ true → is_in (length plan.devices) (parent_of plan d) ≡ true
taken_in plan d b has = parent_in plan d (front _ _ has)

minded_in : (plan : Plan) (v : Views) (d : DevId) (tried : Bool) → minds_parent plan v d && not tried ≡ true → is_in (length plan.devices) (parent_of plan d) ≡ true
minded_in plan v d tried minds = parent_in plan d (minds_has plan v d tried minds)

verdict_tells : (plan : Plan) (v : Views) (t : ℕ) (r : ResumeCall) (tried : Bool) → is_in (length plan.devices) r.dev ≡ true → nat_lt r.flags 16 ≡ true
    → Tells plan v t (resume_verdict plan v r tried)
unfolding resume_verdict
verdict_tells plan v t r tried inside small = search (either, ok, returns_tell, taken_in, minded_in, either_result, flags_told, no_time) depth 40

takes_tell : (plan : Plan) (v : Views) (t : ℕ) (r : ResumeCall) (x : Option (ℕ × DevId)) → is_in (length plan.devices) r.dev ≡ true → nat_lt r.flags 16 ≡ true
    → first_free plan v r.dev ≡ x → Tells plan v t (resume_takes plan v r t x)
takes_tell plan v t r (Some link) inside small e =
    let free = free_is plan v r.dev link e in let lent = supplier_in plan link.0 r.dev link.1 free in
    ok ((lent, (link.0, free)), tt, ((lent, refl, refl, no_time t, tt), ((inside, small, refl, no_time t, tt), tt)))
takes_tell plan v t r None inside small e = search (both, ok, no_time, this_time) depth 12

links_tell : (plan : Plan) (v : Views) (t : ℕ) (r : ResumeCall) → is_in (length plan.devices) r.dev ≡ true → nat_lt r.flags 16 ≡ true
    → Tells plan v t (resume_links plan v r t)
unfolding resume_links
links_tell plan v t r inside small = takes_tell plan v t r (first_free plan v r.dev) inside small refl

gives_tell : (plan : Plan) (v : Views) (t : ℕ) (r : ResumeCall) (c : ℤ) (x : Option (ℕ × DevId)) → is_in (length plan.devices) r.dev ≡ true → nat_lt r.flags 16 ≡ true
    → is_result c ≡ true → first_held plan v r.dev ≡ x → Tells plan v t (resume_gives v r c x)
gives_tell plan v t r c (Some link) inside small good e =
    let lent = supplier_in plan link.0 r.dev link.1 (held_is plan v r.dev link e) in search (ok, no_time) depth 20
gives_tell plan v t r c None inside small good e = search (ok, no_time) depth 12

unwinds_tell : (plan : Plan) (v : Views) (t : ℕ) (r : ResumeCall) (c : ℤ) → is_in (length plan.devices) r.dev ≡ true → nat_lt r.flags 16 ≡ true
    → is_result c ≡ true → Tells plan v t (resume_unwinds plan v r c)
unfolding resume_unwinds
unwinds_tell plan v t r c inside small good = gives_tell plan v t r c (first_held plan v r.dev) inside small good refl

ends_tell : (plan : Plan) (v : Views) (t : ℕ) (r : ResumeCall) → is_in (length plan.devices) r.dev ≡ true → nat_lt r.flags 16 ≡ true
    → Tells plan v t (resume_ends plan v r)
unfolding resume_ends
ends_tell plan v t r inside small = search (both, ok, callback_result, no_time) depth 12

domain_tells : (plan : Plan) (v : Views) (t : ℕ) (r : ResumeCall) (c : ℤ) → is_in (length plan.devices) r.dev ≡ true → nat_lt r.flags 16 ≡ true
    → is_result c ≡ true → Tells plan v t (resume_domain plan v r c)
unfolding resume_domain
domain_tells plan v t r c inside small good = search (both, ok, unwinds_tell, no_time) depth 12

pub resume_tells : (plan : Plan) (v : Views) (t : ℕ) (s : ResumeStage) → is_in (length plan.devices) (resume_device s) ≡ true → (let r = resume_call s in nat_lt r.flags 16 ≡ true)
    → is_result (resume_code s) ≡ true → Fits plan (stage.Resume s) → Obeys (Telling plan v t) (resume_row plan v s t)
resume_tells plan v t (resume.Enter r) inside small good fits = search (ok, flags_told, no_time) depth 12
resume_tells plan v t (resume.Verdict r tried) inside small good fits = verdict_tells plan v t r tried inside small
resume_tells plan v t (resume.Waiting r tried) inside small good fits = both _ waiting (verdict_tells plan v t r tried inside small)
resume_tells plan v t (resume.Links r) inside small good fits = links_tell plan v t r inside small
resume_tells plan v t (resume.Supplied r c) inside small good fits = both _ (links_tell plan v t r inside small) (unwinds_tell plan v t r c inside small good)
resume_tells plan v t (resume.Callback r) inside small good fits = search (ok, this_time) depth 12
resume_tells plan v t (resume.Running r since) inside small good fits = ends_tell plan v t r inside small
resume_tells plan v t (resume.Resumed r) inside small good fits = search (ok, no_time) depth 12
resume_tells plan v t (resume.Idle r) inside small good fits = search (ok, flags_told, no_time) depth 12
resume_tells plan v t (resume.Done r c) inside small good fits = returns_tell plan v t r c _ inside small good tt
resume_tells plan v t (resume.Parent r c) inside small good fits =
    let has = parent_in plan r.dev (holds_has plan r fits) in search (ok, no_time) depth 12
resume_tells plan v t (resume.Domain r c) inside small good fits = domain_tells plan v t r c inside small good
resume_tells plan v t (resume.Unwind r c) inside small good fits = unwinds_tell plan v t r c inside small good
