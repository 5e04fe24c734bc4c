-- The rows of resume.
use Rattle.std.proofs.Common.{ℕ, ◌≡◌, ◌⊎◌, inl, inr, Bool, true, false, not, ◌&&◌, Option, Some, None, ℤ, pos, nat_eq, if◌then◌else◌, refl, sym, ◌∙◌, subst}
use Rattle.std.specs.Prelude.{◌||◌}
use Rattle.std.specs.Option.{unwrap_or}
use Rattle.std.specs.Ordering.{int_eq}
use Rattle.std.proofs.lemmas.Bool.{eqb-true}
use Rattle.pm_base.specs.declared.Cb.TheVariants as cb
use Rattle.pm_base.specs.declared.DevId.{DevId}
use Rattle.pm_base.specs.declared.Status.TheVariants as status
use Rattle.pm_base.specs.declared.codes.TheConstants.{ASYNC, EACCES}
use Rattle.pm_model.specs.declared.event.Event.TheVariants as event
use Rattle.pm_model.specs.declared.event.Word.TheVariants as word
use Rattle.pm_model.specs.declared.plan.Plan.{Plan}
use Rattle.pm_model.specs.declared.stage.Change.{Change}
use Rattle.pm_model.specs.declared.stage.ResumeCall.{ResumeCall}
use Rattle.pm_model.specs.declared.stage.ResumeStage.{ResumeStage}
use Rattle.pm_model.specs.declared.stage.ResumeStage.TheVariants as resume
use Rattle.pm_model.specs.declared.stage.Stage.{Stage}
use Rattle.pm_model.specs.declared.stage.Stage.TheVariants as stage
use Rattle.pm_model.specs.Counted.{is_same, only_if}
use Rattle.pm_model.specs.Derived.{has, has_error, is_disabled, is_active, is_active_status, is_suspending, is_resuming, is_moving, minds_parent, awaits_parent, callback_code, first_held, first_free}
use Rattle.pm_model.specs.PlanRows.{no_callbacks, has_domain, has_parent}
use Rattle.pm_model.specs.ResumeTable.{resume_goes, leaves, resume_returns, resume_verdict, resume_takes, resume_links, resume_gives, resume_unwinds, is_supplied, resume_ends, resume_domain, resume_row}
use Rattle.pm_model.specs.Row.{Row, writes, back}
use Rattle.pm_model.specs.SuspendTable.{may_not_wait}
use Rattle.pm_model.specs.Views.{Views, device}
use Rattle.pm_laws.specs.stacks.Shape.{Fits, raising, call_of}
use Rattle.pm_laws.proofs.stacks.Obeying.{Obeys, waiting, either}
use Rattle.pm_laws.proofs.stacks.Tests.{front, rear, same_device}
use Rattle.pm_laws.specs.safe.Pends.{is_up}
use Rattle.pm_laws.proofs.safe.Steps.{differ}
use Rattle.pm_laws.specs.gets.Answered.{is_sync_resume, answers}
use Rattle.pm_laws.proofs.gets.Handing.{tells_answer}
use Rattle.pm_laws.proofs.gets.Owing.{Owing, owes, silent, carries, alike}

abbrev Owes : Views → Stage → Row → Type 0
Owes v s row = Obeys (Owing v s) row

leaves_tells : (plan : Plan) (r : ResumeCall) (c : ℤ) (d : DevId) (s : Stage) → call_of s ≡ raising r → tells_answer d s (leaves plan r c) ≡ (is_sync_resume d (raising r) && is_up c)
unfolding leaves
leaves_tells plan r c d s is = go (r.held && has_parent plan r.dev)
  where
    go : (b : Bool) → tells_answer d s (if b then resume_goes (resume.Parent r c) else back c) ≡ (is_sync_resume d (raising r) && is_up c)
    go true = refl
    go false = rw is refl

returns_owe : {v : Views} (plan : Plan) (r : ResumeCall) (c : ℤ) (change : Change) (s : Stage) → call_of s ≡ raising r
    → ((d : DevId) → is_sync_resume d (raising r) && is_up c ≡ true → (answers d s ≡ true) ⊎ (is_active v d ≡ true)) → Owes v s (resume_returns plan r c change)
returns_owe plan r c change s is told = owes refl refl (λ d t. told d (sym (leaves_tells plan r c d s is) ∙ t))

-- with a bad code
fails : {v : Views} {c : ℤ} {change : Change} {s : Stage} (plan : Plan) (r : ResumeCall) → call_of s ≡ raising r → is_up c ≡ false
    → Owes v s (resume_returns plan r c change)
fails {v} {c} {change} {s} plan r is bad = returns_owe plan r c change s is (λ d t. differ (rear _ _ t) bad)

pub same_active : (v : Views) (d e : DevId) → is_same d e ≡ true → is_active v e ≡ true → is_active v d ≡ true
same_active v d e same up = subst (λ x. is_active v x ≡ true) (same_device e d same) up

-- the device was found Active
finds : {v : Views} {change : Change} {s : Stage} (plan : Plan) (r : ResumeCall) → call_of s ≡ raising r → is_active v r.dev ≡ true
    → Owes v s (resume_returns plan r (pos 1) change)
finds {v} {change} {s} plan r is up = returns_owe plan r (pos 1) change s is (λ d t. inr (same_active v d r.dev (front _ _ (front _ _ t)) up))

-- it is made Active
pub turned_up : (v : Views) (d : DevId) (b : Bool) → b ≡ true → is_active_status (unwrap_or (only_if b status.Active) (device v d).status) ≡ true
turned_up v d true e = refl
turned_up v d false e = cc

turns : {v : Views} {r : ResumeCall} {change : Change} {s : Stage} → Owes v s (writes (event.State r.dev word.Active) change (resume_goes (resume.Idle r)))
turns {v} {r} = owes refl refl (λ d t. inr (turned_up v d (is_same d r.dev) (front _ _ t)))

-- a get_sync waits
pub four_waits : (n : ℕ) → nat_eq n 4 ≡ true → may_not_wait n ≡ false
unfolding has
four_waits n e = let k : n ≡ 4 = eqb-true n 4 e in rw k refl

four_sync : (n : ℕ) → nat_eq n 4 ≡ true → has n ASYNC ≡ false
unfolding has
four_sync n e = let k : n ≡ 4 = eqb-true n 4 e in rw k refl

pub middle : (a b c : Bool) → a && b && c ≡ true → b ≡ true
middle true true true e = refl
middle true true false e = cc
middle true false c e = cc
middle false b c e = cc

verdict_owes : (plan : Plan) (v : Views) (r : ResumeCall) (tried : Bool) → Owes v (stage.Resume (resume.Verdict r tried)) (resume_verdict plan v r tried)
unfolding resume_verdict
verdict_owes plan v r tried =
    let d = r.dev in
    let f = r.flags in
    either (has_error v d) (λ _. fails plan r refl refl) (λ _.
    either (is_disabled v d && is_active v d && (device v d).last_active) (λ is. finds plan r refl (middle (is_disabled v d) (is_active v d) _ is)) (λ _.
    either (is_disabled v d) (λ _. fails plan r refl refl) (λ _.
    either (is_active v d) (λ is. finds plan r refl is) (λ _.
    either (is_suspending v d && may_not_wait f) (λ is. owes refl refl (λ x t. differ (rear _ _ is) (four_waits f (rear _ _ (front _ _ t))))) (λ _.
    either (is_resuming v d && may_not_wait f) (λ _. fails plan r refl refl) (λ _.
    either (is_moving v d) (λ _. silent refl refl (λ _. refl)) (λ _.
    either (has f ASYNC) (λ is. owes refl refl (λ x t. differ is (four_sync f (rear _ _ (front _ _ t))))) (λ _.
    either (has_parent plan d && not r.held) (λ _. silent refl refl (λ _. refl)) (λ _.
    either (minds_parent plan v d && not tried) (λ _. silent refl refl (λ _. refl)) (λ _.
    either (awaits_parent plan v d) (λ _. fails plan r refl refl) (λ _.
    either (no_callbacks plan d) (λ _. turns) (λ _. silent refl refl (λ _. refl)))))))))))))

takes_owe : (plan : Plan) (v : Views) (t : ℕ) (r : ResumeCall) (s : Stage) (o : Option (ℕ × DevId)) → Owes v s (resume_takes plan v r t o)
takes_owe plan v t r s (Some link) = silent refl refl (λ _. refl)
takes_owe plan v t r s None = either (has_domain plan r.dev) (λ _. silent refl refl (λ _. refl)) (λ _. silent refl refl (λ _. refl))

links_owe : (plan : Plan) (v : Views) (t : ℕ) (r : ResumeCall) (s : Stage) → Owes v s (resume_links plan v r t)
unfolding resume_links
links_owe plan v t r s = takes_owe plan v t r s (first_free plan v r.dev)

bad_is_down : (c : ℤ) → is_supplied c ≡ false → is_up c ≡ false
bad_is_down c e = go (int_eq c (pos 0)) (int_eq c (pos 1)) (int_eq c EACCES) e
  where
    go : (x y z : Bool) → x || y || z ≡ false → x || y ≡ false
    go false false z e = refl
    go false true z e = cc
    go true y z e = cc

gives_owe : (v : Views) (r : ResumeCall) (c : ℤ) (s : Stage) (o : Option (ℕ × DevId)) → is_supplied c ≡ false → Owes v s (resume_gives v r c o)
gives_owe v r c s (Some link) bad = silent refl refl (λ _. refl)
gives_owe v r c s None bad = owes refl refl (λ d t. differ (rear _ _ t) (bad_is_down c bad))

unwinds_owe : (plan : Plan) (v : Views) (r : ResumeCall) (c : ℤ) (s : Stage) → is_supplied c ≡ false → Owes v s (resume_unwinds plan v r c)
unfolding resume_unwinds
unwinds_owe plan v r c s bad = gives_owe v r c s (first_held plan v r.dev) bad

ends_owe : (plan : Plan) (v : Views) (r : ResumeCall) (s : Stage) → Owes v s (resume_ends plan v r)
unfolding resume_ends
ends_owe plan v r s = either (int_eq (callback_code plan v cb.Resume r.dev) (pos 0)) (λ _. silent refl refl (λ _. refl)) (λ _. silent refl refl (λ _. refl))

domain_owes : (plan : Plan) (v : Views) (r : ResumeCall) (c : ℤ) (s : Stage) → is_supplied c ≡ false → Owes v s (resume_domain plan v r c)
unfolding resume_domain
domain_owes plan v r c s bad = either (has_domain plan r.dev) (λ _. silent refl refl (λ _. refl)) (λ _. unwinds_owe plan v r c s bad)

pub resume_owes : (plan : Plan) (v : Views) (t : ℕ) (s : ResumeStage) → Fits plan (stage.Resume s) → Owes v (stage.Resume s) (resume_row plan v s t)
resume_owes plan v t (resume.Enter r) fits = silent refl refl (λ _. refl)
resume_owes plan v t (resume.Verdict r tried) fits = verdict_owes plan v r tried
resume_owes plan v t (resume.Waiting r tried) fits = either (is_moving v r.dev) (λ _. waiting) (λ _. alike (stage.Resume (resume.Verdict r tried)) refl refl (λ _. refl) (verdict_owes plan v r tried))
resume_owes plan v t (resume.Links r) fits = links_owe plan v t r _
resume_owes plan v t (resume.Supplied r c) fits = either (is_supplied c) (λ _. links_owe plan v t r _) (λ bad. unwinds_owe plan v r c _ bad)
resume_owes plan v t (resume.Callback r) fits = silent refl refl (λ _. refl)
resume_owes plan v t (resume.Running r since) fits = ends_owe plan v r _
resume_owes plan v t (resume.Resumed r) fits = turns
resume_owes plan v t (resume.Idle r) fits = carries refl refl (λ _. refl)
resume_owes plan v t (resume.Done r c) fits = returns_owe plan r c _ _ refl (λ d t. inl t)
resume_owes plan v t (resume.Parent r c) fits = carries refl refl (λ _. refl)
resume_owes plan v t (resume.Domain r c) fits = domain_owes plan v r c _ fits
resume_owes plan v t (resume.Unwind r c) fits = unwinds_owe plan v r c _ fits
