-- The rows of resume.
use Rattle.std.proofs.Common.{ℕ, ◌≡◌, ◌+◌, Bool, true, false, not, ◌&&◌, Option, Some, None, ℤ, pos, if◌then◌else◌, refl, sym, ◌∙◌, arith}
use Rattle.std.specs.Ordering.{int_eq}
use Rattle.std.proofs.lemmas.Bool.{false≢true}
use Rattle.pm_base.specs.declared.Cb.TheVariants as cb
use Rattle.pm_base.specs.declared.DevId.{DevId}
use Rattle.pm_base.specs.declared.Status.TheVariants as status
use Rattle.pm_base.specs.declared.Why.TheVariants as why
use Rattle.pm_base.specs.declared.codes.TheConstants.{ASYNC}
use Rattle.pm_model.specs.declared.plan.Plan.{Plan}
use Rattle.pm_model.specs.declared.stage.Change.{Change}
use Rattle.pm_model.specs.declared.stage.ResumeCall.{ResumeCall}
use Rattle.pm_model.specs.declared.stage.ResumeStage.{ResumeStage}
use Rattle.pm_model.specs.declared.stage.ResumeStage.TheVariants as resume
use Rattle.pm_model.specs.declared.stage.Stage.{Stage}
use Rattle.pm_model.specs.declared.stage.Stage.TheVariants as stage
use Rattle.pm_model.specs.Counted.{is_same}
use Rattle.pm_model.specs.Derived.{has, has_error, is_disabled, is_active, is_suspending, is_resuming, is_moving, minds_parent, awaits_parent, callback_code, first_held, first_free}
use Rattle.pm_model.specs.PlanRows.{no_callbacks, has_domain, has_parent, parent_of}
use Rattle.pm_model.specs.ResumeTable.{resume_goes, leaves, resume_returns, resume_verdict, resume_begins, resume_takes, resume_links, resume_gives, resume_unwinds, is_supplied, resume_ends, resume_domain, resume_row}
use Rattle.pm_model.specs.Row.{back}
use Rattle.pm_model.specs.SuspendTable.{may_not_wait}
use Rattle.pm_model.specs.Views.{Views, device}
use Rattle.pm_laws.specs.counts.Sums.{one, weigh}
use Rattle.pm_laws.specs.counts.Counts.{holds, has_mark}
use Rattle.pm_laws.proofs.counts.Accounts.{quiet, turn}
use Rattle.pm_laws.proofs.counts.Givings.{took_stages, gave_stages, took_link, gave_link}
use Rattle.pm_laws.proofs.counts.Links.{held_found, free_found}
use Rattle.pm_laws.proofs.counts.Named.{IsCalm}
use Rattle.pm_laws.proofs.counts.Owning.{Owns, none, stays_still, begins_resume, ends_resume}
use Rattle.pm_laws.proofs.counts.Places.{shown}
use Rattle.pm_laws.proofs.counts.Rows.{Known, Owes, SameOwners, either, either_next, alike, waiting}

-- what is left of a resume that returns holds its count on the parent
leaves_holds : (plan : Plan) (r : ResumeCall) (c : ℤ) (x : DevId) → weigh (holds plan x) (shown (leaves plan r c)) ≡ one (has_mark plan x r)
unfolding leaves
leaves_holds plan r c x = go (r.held && has_parent plan r.dev)
  where
    go : (b : Bool) → weigh (holds plan x) (shown (if b then resume_goes (resume.Parent r c) else back c)) ≡ one (b && is_same x (parent_of plan r.dev))
    go true = refl
    go false = refl

returns_keep : {plan : Plan} {v : Views} {t : ℕ} {s : Stage} (r : ResumeCall) (c : ℤ) (x : Change) → Known plan v
    → IsCalm v x → Owns s none none → ((d : DevId) → holds plan d s ≡ one (has_mark plan d r))
    → Owes plan v t s (resume_returns plan r c x)
unfolding leaves
returns_keep {plan} {v} {t} {s} r c x k calm o h =
    let nothing : SameOwners s (back c) = λ x. (sym (o x).0, sym (o x).1) in
    quiet k tt calm (either_next (SameOwners s) (r.held && has_parent plan r.dev) (resume_goes (resume.Parent r c)) (back c) nothing nothing)
    (λ x. leaves_holds plan r c x ∙ sym (h x))

-- the mark held is set
marks : (held parent same : Bool) → parent && not held ≡ true → one ((true && parent) && same) ≡ one ((held && parent) && same) + one same
marks held false same e = absurd (false≢true e)
marks true true same e = absurd (false≢true e)
marks false true same e = omega arith

verdict_keeps : (plan : Plan) (v : Views) (t : ℕ) (r : ResumeCall) (tried : Bool) → Known plan v
    → Owes plan v t (stage.Resume (resume.Verdict r tried)) (resume_verdict plan v r tried)
unfolding resume_verdict
verdict_keeps plan v t r tried k =
    let d = r.dev in
    let f = r.flags in
    either (has_error v d) (λ _. search returns_keep) (λ _.
    either (is_disabled v d && is_active v d && (device v d).last_active) (λ _. search returns_keep) (λ _.
    either (is_disabled v d) (λ _. search returns_keep) (λ _.
    either (is_active v d) (λ _. search returns_keep) (λ _.
    either (is_suspending v d && may_not_wait f) (λ _. search quiet) (λ _.
    either (is_resuming v d && may_not_wait f) (λ _. search returns_keep) (λ _.
    either (is_moving v d) (λ _. search quiet) (λ stands.
    either (has f ASYNC) (λ _. search quiet) (λ _.
    either (has_parent plan d && not r.held) (λ has. took_stages (parent_of plan d) (why.Child d) k tt tt (λ _. (refl, refl)) (λ x. marks r.held (has_parent plan d) (is_same x (parent_of plan d)) has)) (λ _.
    either (minds_parent plan v d && not tried) (λ _. search quiet) (λ _.
    either (awaits_parent plan v d) (λ _. search returns_keep) (λ _.
    either (no_callbacks plan d) (λ _. turn k tt tt (stays_still d status.Active stands refl (λ _. refl) (λ _. (refl, refl)) (λ _. (refl, refl))) (λ _. refl)) (λ calls.
    turn k tt tt (begins_resume d stands calls (λ _. refl) (λ _. (refl, refl)) (λ _. (refl, refl))) (λ _. refl)))))))))))))

begins_keep : (plan : Plan) (v : Views) (t : ℕ) (r : ResumeCall) → Known plan v → Owes plan v t (stage.Resume (resume.Callback r)) (resume_begins r t)
begins_keep plan v t r k = search quiet

takes_keep : (plan : Plan) (v : Views) (t : ℕ) (r : ResumeCall) → Known plan v → (x : Option (ℕ × DevId)) → first_free plan v r.dev ≡ x
    → Owes plan v t (stage.Resume (resume.Links r)) (resume_takes plan v r t x)
takes_keep plan v t r k (Some link) e = took_link r.dev link.1 k (free_found plan v r.dev link e) (λ _. (refl, refl)) (λ _. refl)
takes_keep plan v t r k None e = either (has_domain plan r.dev) (λ _. search quiet) (λ _. alike (stage.Resume (resume.Callback r)) (λ _. (refl, refl)) (λ _. refl) (begins_keep plan v t r k))

links_keep : (plan : Plan) (v : Views) (t : ℕ) (r : ResumeCall) → Known plan v
    → Owes plan v t (stage.Resume (resume.Links r)) (resume_links plan v r t)
unfolding resume_links
links_keep plan v t r k = takes_keep plan v t r k (first_free plan v r.dev) refl

gives_keep : (plan : Plan) (v : Views) (t : ℕ) (r : ResumeCall) (c : ℤ) → Known plan v → (x : Option (ℕ × DevId)) → first_held plan v r.dev ≡ x
    → Owes plan v t (stage.Resume (resume.Unwind r c)) (resume_gives v r c x)
gives_keep plan v t r c k (Some link) e = gave_link r.dev link.1 k tt (held_found plan v r.dev link e) (λ _. (refl, refl)) (λ _. refl)
gives_keep plan v t r c k None e = turn k tt tt (ends_resume r.dev status.Suspended refl (λ _. refl) (λ _. (refl, refl)) (λ _. (refl, refl))) (λ _. refl)

unwinds_keep : (plan : Plan) (v : Views) (t : ℕ) (r : ResumeCall) (c : ℤ) → Known plan v
    → Owes plan v t (stage.Resume (resume.Unwind r c)) (resume_unwinds plan v r c)
unfolding resume_unwinds
unwinds_keep plan v t r c k = gives_keep plan v t r c k (first_held plan v r.dev) refl

ends_keep : (plan : Plan) (v : Views) (t : ℕ) (r : ResumeCall) (since : ℕ) → Known plan v
    → Owes plan v t (stage.Resume (resume.Running r since)) (resume_ends plan v r)
unfolding resume_ends
ends_keep plan v t r since k = either (int_eq (callback_code plan v cb.Resume r.dev) (pos 0)) (λ _. search quiet) (λ _. search quiet)

domain_keeps : (plan : Plan) (v : Views) (t : ℕ) (r : ResumeCall) (c : ℤ) → Known plan v
    → Owes plan v t (stage.Resume (resume.Domain r c)) (resume_domain plan v r c)
unfolding resume_domain
domain_keeps plan v t r c k = either (has_domain plan r.dev) (λ _. search quiet) (λ _. alike (stage.Resume (resume.Unwind r c)) (λ _. (refl, refl)) (λ _. refl) (unwinds_keep plan v t r c k))

pub resume_keeps : (plan : Plan) (v : Views) (t : ℕ) (s : ResumeStage) → Known plan v → Owes plan v t (stage.Resume s) (resume_row plan v s t)
resume_keeps plan v t (resume.Enter r) k = search quiet
resume_keeps plan v t (resume.Verdict r tried) k = verdict_keeps plan v t r tried k
resume_keeps plan v t (resume.Waiting r tried) k = either (is_moving v r.dev) (λ _. waiting) (λ _. alike (stage.Resume (resume.Verdict r tried)) (λ _. (refl, refl)) (λ _. refl) (verdict_keeps plan v t r tried k))
resume_keeps plan v t (resume.Links r) k = links_keep plan v t r k
resume_keeps plan v t (resume.Supplied r c) k =
    either (is_supplied c) (λ _. alike (stage.Resume (resume.Links r)) (λ _. (refl, refl)) (λ _. refl) (links_keep plan v t r k))
    (λ _. alike (stage.Resume (resume.Unwind r c)) (λ _. (refl, refl)) (λ _. refl) (unwinds_keep plan v t r c k))
resume_keeps plan v t (resume.Callback r) k = begins_keep plan v t r k
resume_keeps plan v t (resume.Running r since) k = ends_keep plan v t r since k
resume_keeps plan v t (resume.Resumed r) k = turn k tt tt (ends_resume r.dev status.Active refl (λ _. refl) (λ _. (refl, refl)) (λ _. (refl, refl))) (λ _. refl)
resume_keeps plan v t (resume.Idle r) k = search quiet
resume_keeps plan v t (resume.Done r c) k = search returns_keep
resume_keeps plan v t (resume.Parent r c) k = gave_stages (parent_of plan r.dev) (why.Child r.dev) k tt tt (λ _. (refl, refl)) (λ _. omega arith)
resume_keeps plan v t (resume.Domain r c) k = domain_keeps plan v t r c k
resume_keeps plan v t (resume.Unwind r c) k = unwinds_keep plan v t r c k
