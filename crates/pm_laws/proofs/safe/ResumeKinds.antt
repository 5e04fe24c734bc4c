-- The rows of resume, by kinds.
use Rattle.std.proofs.Common.{ℕ, ◌≡◌, Bool, true, false, not, ◌&&◌, Option, Some, None, ℤ, pos, if◌then◌else◌, ap, refl}
use Rattle.std.specs.Ordering.{int_eq}
use Rattle.pm_base.specs.declared.Cb.TheVariants as cb
use Rattle.pm_base.specs.declared.DevId.{DevId}
use Rattle.pm_base.specs.declared.codes.TheConstants.{ASYNC}
use Rattle.pm_model.specs.declared.event.Word.TheVariants as word
use Rattle.pm_model.specs.declared.plan.Plan.{Plan}
use Rattle.pm_model.specs.declared.stage.Change.{Change}
use Rattle.pm_model.specs.declared.stage.ResumeCall.{ResumeCall}
use Rattle.pm_model.specs.declared.stage.ResumeStage.{ResumeStage}
use Rattle.pm_model.specs.declared.stage.ResumeStage.TheVariants as resume
use Rattle.pm_model.specs.declared.stage.Stage.{Stage}
use Rattle.pm_model.specs.declared.stage.Stage.TheVariants as stage
use Rattle.pm_model.specs.Derived.{has, has_error, is_disabled, is_active, is_suspending, is_resuming, is_moving, minds_parent, awaits_parent, callback_code, first_held, first_free}
use Rattle.pm_model.specs.PlanRows.{no_callbacks, has_domain, has_parent}
use Rattle.pm_model.specs.ResumeTable.{resume_goes, leaves, resume_returns, resume_verdict, resume_takes, resume_links, resume_gives, resume_unwinds, is_supplied, resume_ends, resume_domain, resume_row}
use Rattle.pm_model.specs.Row.{back}
use Rattle.pm_model.specs.SuspendTable.{may_not_wait}
use Rattle.pm_model.specs.Views.{Views, device}
use Rattle.pm_laws.specs.safe.Parts.{Phase, preparing, refused, failed, falling, no_part, part, part_of}
use Rattle.pm_laws.specs.safe.Kinds.{may_give, is_of_link, lowers_domain, gives_link, suspends, resumes_quiet, enters, takes_link, raises_domain, begins_resume, begins_at_once, ends_resume, fails_resume, resumes}
use Rattle.pm_laws.proofs.safe.RowKinds.{Owes, waiting, either, either_leads, Leads, of_kind, still, alike}

leaves_leads : (plan : Plan) (r : ResumeCall) (c : ℤ) → Leads (leaves plan r c) no_part
unfolding leaves
leaves_leads plan r c = either_leads (r.held && has_parent plan r.dev) (resume_goes (resume.Parent r c)) (back c) no_part (λ _ _. refl) (λ _ _. refl)

returns_kind : {plan : Plan} {v : Views} {s : Stage} (r : ResumeCall) (c : ℤ) (change : Change) → part_of s ≡ no_part → is_of_link change ≡ false
    → Owes plan v s (resume_returns plan r c change)
returns_kind {plan} {v} {s} r c change is apart = still refl (rw is (leaves_leads plan r c)) apart

verdict_kind : (plan : Plan) (v : Views) (r : ResumeCall) (tried : Bool) → Owes plan v (stage.Resume (resume.Verdict r tried)) (resume_verdict plan v r tried)
unfolding resume_verdict
verdict_kind plan v r tried =
    let d = r.dev in
    let f = r.flags in
    either (has_error v d) (λ _. search returns_kind) (λ _.
    either (is_disabled v d && is_active v d && (device v d).last_active) (λ _. search returns_kind) (λ _.
    either (is_disabled v d) (λ _. search returns_kind) (λ _.
    either (is_active v d) (λ _. search returns_kind) (λ inactive.
    either (is_suspending v d && may_not_wait f) (λ _. search still) (λ _.
    either (is_resuming v d && may_not_wait f) (λ _. search returns_kind) (λ _.
    either (is_moving v d) (λ _. search still) (λ stands.
    either (has f ASYNC) (λ _. search still) (λ _.
    either (has_parent plan d && not r.held) (λ _. search still) (λ _.
    either (minds_parent plan v d && not tried) (λ _. search still) (λ _.
    either (awaits_parent plan v d) (λ _. search returns_kind) (λ ready.
    either (no_callbacks plan d) (λ none. of_kind (resumes_quiet d) refl (λ _ _. refl) refl refl (none, stands, ready)) (λ _.
    of_kind (enters d) refl (λ _ _. refl) refl refl (stands, ready, inactive)))))))))))))

takes_kind : (plan : Plan) (v : Views) (t : ℕ) (r : ResumeCall) (s : Stage) → part_of s ≡ part r.dev preparing → (o : Option (ℕ × DevId)) → first_free plan v r.dev ≡ o
    → Owes plan v s (resume_takes plan v r t o)
takes_kind plan v t r s is (Some link) e = of_kind (takes_link r.dev link preparing) is (λ _ _. refl) refl refl (e, refl)
takes_kind plan v t r s is None e =
    either (has_domain plan r.dev) (λ has. of_kind (raises_domain r.dev _) is (λ _ _. refl) refl refl (e, has))
    (λ none. of_kind (begins_at_once r.dev) is (λ _ _. refl) refl refl (e, none))

links_kind : (plan : Plan) (v : Views) (t : ℕ) (r : ResumeCall) (s : Stage) → part_of s ≡ part r.dev preparing → Owes plan v s (resume_links plan v r t)
unfolding resume_links
links_kind plan v t r s is = takes_kind plan v t r s is (first_free plan v r.dev) refl

gives_kind : (plan : Plan) (v : Views) (r : ResumeCall) (c : ℤ) (s : Stage) (x : Phase) → part_of s ≡ part r.dev x → may_give x ≡ true → (o : Option (ℕ × DevId)) → first_held plan v r.dev ≡ o
    → Owes plan v s (resume_gives v r c o)
gives_kind plan v r c s x is may (Some link) e = of_kind (gives_link r.dev link.1 x falling) is (λ _ _. refl) refl refl (may, refl)
gives_kind plan v r c s x is may None e = of_kind (suspends r.dev word.Suspended x) is (λ _ _. refl) refl refl (e, refl, may)

unwinds_kind : (plan : Plan) (v : Views) (r : ResumeCall) (c : ℤ) (s : Stage) (x : Phase) → part_of s ≡ part r.dev x → may_give x ≡ true → Owes plan v s (resume_unwinds plan v r c)
unfolding resume_unwinds
unwinds_kind plan v r c s x is may = gives_kind plan v r c s x is may (first_held plan v r.dev) refl

supplied_part : (r : ResumeCall) (c : ℤ) (b : Bool) → is_supplied c ≡ b → part_of (stage.Resume (resume.Supplied r c)) ≡ part r.dev (if b then preparing else refused)
supplied_part r c b e = ap (λ x. part r.dev (if x then preparing else refused)) e

ends_kind : (plan : Plan) (v : Views) (r : ResumeCall) (since : ℕ) → Owes plan v (stage.Resume (resume.Running r since)) (resume_ends plan v r)
unfolding resume_ends
ends_kind plan v r since =
    either (int_eq (callback_code plan v cb.Resume r.dev) (pos 0)) (λ _. of_kind (ends_resume r.dev _) refl (λ _ _. refl) refl refl tt)
    (λ _. of_kind (fails_resume r.dev _) refl (λ _ _. refl) refl refl tt)

domain_kind : (plan : Plan) (v : Views) (r : ResumeCall) (c : ℤ) → Owes plan v (stage.Resume (resume.Domain r c)) (resume_domain plan v r c)
unfolding resume_domain
domain_kind plan v r c =
    either (has_domain plan r.dev) (λ _. of_kind (lowers_domain r.dev _ failed falling) refl (λ _ _. refl) refl refl refl)
    (λ _. unwinds_kind plan v r c (stage.Resume (resume.Domain r c)) failed refl refl)

pub resume_kind : (plan : Plan) (v : Views) (t : ℕ) (s : ResumeStage) → Owes plan v (stage.Resume s) (resume_row plan v s t)
resume_kind plan v t (resume.Enter r) = search still
resume_kind plan v t (resume.Verdict r tried) = verdict_kind plan v r tried
resume_kind plan v t (resume.Waiting r tried) = either (is_moving v r.dev) (λ _. waiting) (λ _. alike (stage.Resume (resume.Verdict r tried)) refl (verdict_kind plan v r tried))
resume_kind plan v t (resume.Links r) = links_kind plan v t r (stage.Resume (resume.Links r)) refl
resume_kind plan v t (resume.Supplied r c) =
    either (is_supplied c) (λ good. links_kind plan v t r (stage.Resume (resume.Supplied r c)) (supplied_part r c true good))
    (λ bad. unwinds_kind plan v r c (stage.Resume (resume.Supplied r c)) refused (supplied_part r c false bad) refl)
resume_kind plan v t (resume.Callback r) = of_kind (begins_resume r.dev) refl (λ _ _. refl) refl refl tt
resume_kind plan v t (resume.Running r since) = ends_kind plan v r since
resume_kind plan v t (resume.Resumed r) = of_kind (resumes r.dev) refl (λ _ _. refl) refl refl tt
resume_kind plan v t (resume.Idle r) = search still
resume_kind plan v t (resume.Done r c) = search returns_kind
resume_kind plan v t (resume.Parent r c) = search still
resume_kind plan v t (resume.Domain r c) = domain_kind plan v r c
resume_kind plan v t (resume.Unwind r c) = unwinds_kind plan v r c (stage.Resume (resume.Unwind r c)) falling refl refl
