-- The rows of resume, while nothing disturbs.
use Rattle.std.proofs.Common.{ℕ, ◌≡◌, ◌⊎◌, inl, inr, Bool, true, false, not, ◌&&◌, [], ◌∷◌, Option, Some, None, ℤ, pos, nat_eq, if◌then◌else◌, refl, sym, ◌∙◌, subst}
use Rattle.std.specs.Ordering.{int_eq}
use Rattle.std.proofs.lemmas.Bool.{eqb-true}
use Rattle.pm_base.specs.declared.Cb.TheVariants as cb
use Rattle.pm_base.specs.declared.DevId.{DevId}
use Rattle.pm_base.specs.declared.codes.TheConstants.{ASYNC, NOWAIT, EACCES, EINPROGRESS}
use Rattle.pm_model.specs.declared.event.Event.{Event}
use Rattle.pm_model.specs.declared.event.Event.TheVariants as event
use Rattle.pm_model.specs.declared.event.Word.TheVariants as word
use Rattle.pm_model.specs.declared.plan.Plan.{Plan}
use Rattle.pm_model.specs.declared.stage.Await.TheVariants as await
use Rattle.pm_model.specs.declared.stage.Change.{Change}
use Rattle.pm_model.specs.declared.stage.Purpose.{Purpose}
use Rattle.pm_model.specs.declared.stage.Purpose.TheVariants as purpose
use Rattle.pm_model.specs.declared.stage.ResumeCall.{ResumeCall}
use Rattle.pm_model.specs.declared.stage.ResumeStage.{ResumeStage}
use Rattle.pm_model.specs.declared.stage.ResumeStage.TheVariants as resume
use Rattle.pm_model.specs.declared.stage.Stage.{Stage}
use Rattle.pm_model.specs.declared.stage.Stage.TheVariants as stage
use Rattle.pm_model.specs.Counted.{is_same}
use Rattle.pm_model.specs.Derived.{has, has_error, is_disabled, is_active, is_suspending, is_resuming, is_moving, minds_parent, awaits_parent, callback_code, first_free}
use Rattle.pm_model.specs.PlanRows.{no_callbacks, has_domain, has_parent, parent_of}
use Rattle.pm_model.specs.Promises.{implies}
use Rattle.pm_model.specs.ResumeTable.{resume_goes, leaves, resume_returns, resume_verdict, resume_takes, resume_links, is_supplied, resume_ends, resume_row}
use Rattle.pm_model.specs.Row.{writes, back, resumes}
use Rattle.pm_model.specs.SuspendTable.{may_not_wait}
use Rattle.pm_model.specs.Views.{Views, device}
use Rattle.pm_laws.specs.stacks.Shape.{raising, call_of}
use Rattle.pm_laws.proofs.stacks.Obeying.{Obeys, waiting, either}
use Rattle.pm_laws.proofs.stacks.Tests.{front, rear, same_device, same_self}
use Rattle.pm_laws.proofs.safe.Steps.{differ}
use Rattle.pm_laws.specs.safe.Pends.{is_up}
use Rattle.pm_laws.proofs.gets.ResumeOwes.{four_waits, middle, same_active, turned_up}
use Rattle.pm_laws.proofs.gets.Passing.{either_of, tells}
use Rattle.pm_laws.specs.gets.Undisturbed.{is_child, flags_fit, code_fits, call_flags_fit, fits, is_bad, ends_badly, needs_up, brings_up, needs_enabled, no_end}
use Rattle.pm_laws.proofs.gets.Bools.{fit_both, unless}
use Rattle.pm_laws.proofs.gets.Calmly.{Calmly, calm, quiet, loud, is_disabling, is_told}
use Rattle.pm_laws.proofs.gets.SuccessHanding.{up_fits}

-- what is known before a row of a resume
pub record Ready (plan : Plan) (x : DevId) (enabled : Bool) (v : Views) (r : ResumeCall) (tried : Bool) : Type 0 where
  pub flags : call_flags_fit r ≡ true
  pub marked : implies tried (r.held && has_parent plan r.dev) ≡ true
  pub error : has_error v r.dev ≡ false
  pub up : tried ≡ true → is_active v (parent_of plan r.dev) ≡ true
  pub ready : is_child r.purpose ≡ true → is_disabled v r.dev ≡ false
  pub enabled_now : enabled ≡ true → is_disabled v x ≡ false

-- a call ends, or R7 follows
leaves_good : (plan : Plan) (x : DevId) (enabled : Bool) (r : ResumeCall) (c : ℤ) (s : Stage) → call_of s ≡ raising r → call_flags_fit r ≡ true
    → code_fits x enabled r.purpose r.dev r.flags c ≡ true → tells (is_bad plan x enabled) (ends_badly x enabled) s (leaves plan r c) ≡ false
unfolding leaves
leaves_good plan x enabled r c s is flags code = go (r.held && has_parent plan r.dev)
  where
    go : (b : Bool) → tells (is_bad plan x enabled) (ends_badly x enabled) s (if b then resume_goes (resume.Parent r c) else back c) ≡ false
    go true = fit_both (call_flags_fit r) (code_fits x enabled r.purpose r.dev r.flags c) flags code
    go false = rw (is, code) refl

leaves_up : (plan : Plan) (r : ResumeCall) (c : ℤ) (d : DevId) (s : Stage) → call_of s ≡ raising r
    → tells (needs_up plan d) (brings_up d) s (leaves plan r c) ≡ (is_child r.purpose && is_same d r.dev)
unfolding leaves
leaves_up plan r c d s is = go (r.held && has_parent plan r.dev)
  where
    go : (b : Bool) → tells (needs_up plan d) (brings_up d) s (if b then resume_goes (resume.Parent r c) else back c) ≡ (is_child r.purpose && is_same d r.dev)
    go true = refl
    go false = rw is refl

leaves_open : (plan : Plan) (r : ResumeCall) (c : ℤ) (d : DevId) (s : Stage) → tells (needs_enabled d) no_end s (leaves plan r c) ≡ false
unfolding leaves
leaves_open plan r c d s = go (r.held && has_parent plan r.dev)
  where
    go : (b : Bool) → tells (needs_enabled d) no_end s (if b then resume_goes (resume.Parent r c) else back c) ≡ false
    go true = refl
    go false = refl

returns_calm : {x : DevId} {enabled : Bool} {v : Views} (plan : Plan) (r : ResumeCall) (c : ℤ) (change : Change) (s : Stage) → call_of s ≡ raising r → call_flags_fit r ≡ true
    → code_fits x enabled r.purpose r.dev r.flags c ≡ true
    → ((d : DevId) → is_child r.purpose && is_same d r.dev ≡ true → (needs_up plan d s ≡ true) ⊎ (is_active v d ≡ true))
    → is_disabling change ≡ false → Obeys (Calmly plan x enabled v s) (resume_returns plan r c change)
returns_calm {x} {enabled} {v} plan r c change s is flags code up stays =
    calm (leaves_good plan x enabled r c s is flags code) (λ d t. up d (sym (leaves_up plan r c d s is) ∙ t)) (λ d t. differ t (leaves_open plan r c d s)) stays refl

fit_one : (a : Bool) → a ≡ true → not a ≡ false
fit_one true e = refl
fit_one false e = cc

same_enabled : (v : Views) (d e : DevId) → is_same d e ≡ true → is_disabled v e ≡ false → is_disabled v d ≡ false
same_enabled v d e same ready = subst (λ y. is_disabled v y ≡ false) (same_device e d same) ready

-- the device was found Active
finds : {x : DevId} {enabled : Bool} {v : Views} (plan : Plan) (r : ResumeCall) (change : Change) (s : Stage) → call_of s ≡ raising r → call_flags_fit r ≡ true → is_active v r.dev ≡ true
    → is_disabling change ≡ false → Obeys (Calmly plan x enabled v s) (resume_returns plan r (pos 1) change)
finds {x} {enabled} {v} plan r change s is flags up stays =
    returns_calm plan r (pos 1) change s is flags (up_fits x enabled r.purpose r.dev r.flags (pos 1) refl) (λ d t. inr (same_active v d r.dev (rear _ _ t) up)) stays

-- it is made Active
turns : {plan : Plan} {x : DevId} {enabled : Bool} {v : Views} {r : ResumeCall} {change : Change} {s : Stage} → call_flags_fit r ≡ true → is_disabling change ≡ false
    → Obeys (Calmly plan x enabled v s) (writes (event.State r.dev word.Active) change (resume_goes (resume.Idle r)))
turns {v = v} {r = r} flags stays = calm (fit_both _ _ flags refl) (λ d t. inr (turned_up v d (is_same d r.dev) (rear _ _ t))) (λ d t. cc) stays refl

-- a resume for a child or a link, and that of a get_sync, may wait
none_waits : (n : ℕ) → nat_eq n 0 ≡ true → may_not_wait n ≡ false
unfolding has
none_waits n e = let k : n ≡ 0 = eqb-true n 0 e in rw k refl

async_hurries : (f : ℕ) → has f ASYNC ≡ true → may_not_wait f ≡ true
async_hurries f e = rw e refl

hasty_fits : (x : DevId) (enabled : Bool) (p : Purpose) (d : DevId) (f : ℕ) (c : ℤ) → flags_fit p f ≡ true → may_not_wait f ≡ true → code_fits x enabled p d f c ≡ true
hasty_fits x enabled purpose.Plain d f c flags hasty = unless (nat_eq f 4 && is_same x d && enabled) (is_up c) (λ is. differ hasty (four_waits f (front (nat_eq f 4) (is_same x d) (front (nat_eq f 4 && is_same x d) enabled is))))
hasty_fits x enabled purpose.Child d f c flags hasty = differ hasty (none_waits f flags)
hasty_fits x enabled (purpose.Link l) d f c flags hasty = differ hasty (four_waits f flags)

hasty_adult : (p : Purpose) (f : ℕ) → flags_fit p f ≡ true → may_not_wait f ≡ true → is_child p ≡ false
hasty_adult purpose.Plain f flags hasty = refl
hasty_adult purpose.Child f flags hasty = differ hasty (none_waits f flags)
hasty_adult (purpose.Link l) f flags hasty = refl

-- a disabled device is none that was enabled at the call
disabled_fits : (x : DevId) (enabled : Bool) (p : Purpose) (d : DevId) (f : ℕ) (v : Views) → is_disabled v d ≡ true → (is_child p ≡ true → is_disabled v d ≡ false)
    → (enabled ≡ true → is_disabled v x ≡ false) → code_fits x enabled p d f EACCES ≡ true
disabled_fits x enabled purpose.Plain d f v is ready now =
    unless (nat_eq f 4 && is_same x d && enabled) (is_up EACCES) (λ both.
    let same : d ≡ x = same_device d x (rear (nat_eq f 4) (is_same x d) (front (nat_eq f 4 && is_same x d) enabled both)) in
    differ is (subst (λ y. is_disabled v y ≡ false) (sym same) (now (rear (nat_eq f 4 && is_same x d) enabled both))))
disabled_fits x enabled purpose.Child d f v is ready now = differ is (ready refl)
disabled_fits x enabled (purpose.Link l) d f v is ready now = refl

no_child : {A : Type 0} (p : Purpose) (b : Bool) → is_child p && b ≡ true → is_child p ≡ false → A
no_child p b t none = differ (front (is_child p) b t) none

-- the parent that was tried is up
parent_up : {A : Type 0} (minds active tried : Bool) → minds && not active ≡ true → minds && not tried ≡ false → (tried ≡ true → active ≡ true) → A
parent_up true true tried e n up = cc
parent_up true false true e n up = let k = up refl in cc
parent_up true false false e n up = cc
parent_up false active tried e n up = cc

minded_enabled : (plan : Plan) (v : Views) (d : DevId) → minds_parent plan v d ≡ true → is_disabled v (parent_of plan d) ≡ false
unfolding minds_parent
minded_enabled plan v d e =
    let p = parent_of plan d in
    let all : has_parent plan d && nat_eq (device v p).depth 0 && not (device v p).ignores ≡ true = e in
    let k : (device v p).depth ≡ 0 = eqb-true (device v p).depth 0 (middle (has_parent plan d) (nat_eq (device v p).depth 0) (not (device v p).ignores) all) in
    rw k refl

marked_now : (tried held has : Bool) → has && not held ≡ true → implies tried (true && has) ≡ true
marked_now true held true e = refl
marked_now true held false e = cc
marked_now false held has e = refl

verdict_calm : (plan : Plan) (x : DevId) (enabled : Bool) (v : Views) (r : ResumeCall) (tried : Bool) (s : Stage) → call_of s ≡ raising r
    → ((d : DevId) → needs_up plan d s ≡ (tried && is_same d (parent_of plan r.dev))) → ((d : DevId) → needs_enabled d s ≡ (is_child r.purpose && is_same d r.dev))
    → Ready plan x enabled v r tried → Obeys (Calmly plan x enabled v s) (resume_verdict plan v r tried)
unfolding resume_verdict
verdict_calm plan x enabled v r tried s is ups opens k =
    let d = r.dev in
    let f = r.flags in
    either (has_error v d) (λ bad. differ bad k.error) (λ _.
    either (is_disabled v d && is_active v d && (device v d).last_active) (λ up. finds plan r _ s is k.flags (middle (is_disabled v d) (is_active v d) _ up) refl) (λ _.
    either (is_disabled v d) (λ off. returns_calm plan r EACCES _ s is k.flags (disabled_fits x enabled r.purpose d f v off k.ready k.enabled_now) (λ y t. differ off (k.ready (front (is_child r.purpose) _ t))) refl) (λ _.
    either (is_active v d) (λ up. finds plan r _ s is k.flags up refl) (λ _.
    either (is_suspending v d && may_not_wait f) (λ both. hurries (if has f NOWAIT then EINPROGRESS else pos 0) (rear _ _ both) refl refl) (λ _.
    either (is_resuming v d && may_not_wait f) (λ both. returns_calm plan r EINPROGRESS _ s is k.flags (hasty_fits x enabled r.purpose d f EINPROGRESS k.flags (rear _ _ both)) (λ y t. no_child r.purpose _ t (hasty_adult r.purpose f k.flags (rear _ _ both))) refl) (λ _.
    either (is_moving v d) (λ _. calm (fit_both _ _ k.flags k.marked) (λ y t. inl (ups y ∙ t)) (λ y t. inl (opens y ∙ t)) refl refl) (λ _.
    either (has f ASYNC) (λ async. hurries (pos 0) (async_hurries f async) refl refl) (λ _.
    either (has_parent plan d && not r.held) (λ takes. calm (fit_both _ _ k.flags (marked_now tried r.held (has_parent plan d) takes)) (λ y t. inl (ups y ∙ t)) (λ y t. inl (opens y ∙ t)) refl refl) (λ _.
    either (minds_parent plan v d && not tried) (λ minds. asks (front _ _ minds)) (λ sought.
    either (awaits_parent plan v d) (λ waits. parent_up (minds_parent plan v d) (is_active v (parent_of plan d)) tried waits sought k.up) (λ _.
    either (no_callbacks plan d) (λ _. turns k.flags refl) (λ _. quiet (fit_both _ _ k.flags refl) (λ _. refl) (λ _. refl) refl refl))))))))))))
  where
    hurries : {e : Event} {change : Change} (c : ℤ) → may_not_wait r.flags ≡ true → is_disabling change ≡ false → is_told x enabled e ≡ false
        → Obeys (Calmly plan x enabled v s) (writes e change (resume_goes (resume.Done r c)))
    hurries c hasty stays none =
        calm (fit_both (call_flags_fit r) (code_fits x enabled r.purpose r.dev r.flags c) k.flags (hasty_fits x enabled r.purpose r.dev r.flags c k.flags hasty))
        (λ y t. no_child r.purpose (is_same y r.dev) t (hasty_adult r.purpose r.flags k.flags hasty)) (λ y t. cc) stays none

    asks : minds_parent plan v r.dev ≡ true → Obeys (Calmly plan x enabled v s) (resumes plan v (parent_of plan r.dev) 0 purpose.Child (stage.Await (await.ResumeParent r) ∷ []))
    asks minds =
        calm (fit_one (call_flags_fit r) k.flags) (λ y t. cc) (λ y t. elim (either_of (is_same y (parent_of plan r.dev)) (is_child r.purpose && is_same y r.dev) t) [
          | inl same ↦ inr (same_enabled v y (parent_of plan r.dev) same (minded_enabled plan v r.dev minds))
          | inr was ↦ inl (opens y ∙ was)
        ]) refl refl

takes_calm : (plan : Plan) (x : DevId) (enabled : Bool) (v : Views) (t : ℕ) (r : ResumeCall) (s : Stage) (o : Option (ℕ × DevId)) → call_flags_fit r ≡ true
    → Obeys (Calmly plan x enabled v s) (resume_takes plan v r t o)
takes_calm plan x enabled v t r s (Some link) flags = quiet (fit_one (call_flags_fit r) flags) (λ _. refl) (λ _. refl) refl refl
takes_calm plan x enabled v t r s None flags =
    either (has_domain plan r.dev) (λ _. quiet (fit_both (call_flags_fit r) true flags refl) (λ _. refl) (λ _. refl) refl refl)
    (λ _. quiet (fit_both (call_flags_fit r) true flags refl) (λ _. refl) (λ _. refl) refl refl)

links_calm : (plan : Plan) (x : DevId) (enabled : Bool) (v : Views) (t : ℕ) (r : ResumeCall) (s : Stage) → call_flags_fit r ≡ true
    → Obeys (Calmly plan x enabled v s) (resume_links plan v r t)
unfolding resume_links
links_calm plan x enabled v t r s flags = takes_calm plan x enabled v t r s (first_free plan v r.dev) flags

-- a callback that fails disturbs
ends_calm : (plan : Plan) (x : DevId) (enabled : Bool) (v : Views) (r : ResumeCall) (s : Stage) → call_flags_fit r ≡ true
    → Obeys (Calmly plan x enabled v s) (resume_ends plan v r)
unfolding resume_ends
ends_calm plan x enabled v r s flags = either (int_eq (callback_code plan v cb.Resume r.dev) (pos 0))
    (λ _. quiet (fit_both (call_flags_fit r) true flags refl) (λ _. refl) (λ _. refl) refl refl) (λ bad. loud (rw bad refl))

-- whether the resume of a stage has tried its parent
abbrev pub has_tried : ResumeStage → Bool
has_tried (resume.Verdict r tried) = tried
has_tried (resume.Waiting r tried) = tried
has_tried _ = false

no_row : {A : Type 0} (a : Bool) → a && false ≡ true → A
no_row true e = cc
no_row false e = cc

pub resume_calm : (plan : Plan) (x : DevId) (enabled : Bool) (v : Views) (t : ℕ) (s : ResumeStage) → fits plan x enabled (stage.Resume s) ≡ true
    → ((d : DevId) → has_error v d ≡ false) → ((d : DevId) → needs_up plan d (stage.Resume s) ≡ true → is_active v d ≡ true)
    → ((d : DevId) → needs_enabled d (stage.Resume s) ≡ true → is_disabled v d ≡ false) → (enabled ≡ true → is_disabled v x ≡ false)
    → Obeys (Calmly plan x enabled v (stage.Resume s)) (resume_row plan v s t)
resume_calm plan x enabled v t (resume.Enter r) fit errors ups opens now =
    calm (fit_both (call_flags_fit r) true (front _ _ fit) refl) (λ d e. cc) (λ d e. inl e) refl refl
resume_calm plan x enabled v t (resume.Verdict r tried) fit errors ups opens now =
    verdict_calm plan x enabled v r tried _ refl (λ _. refl) (λ _. refl)
    (record { flags = front _ _ fit; marked = rear _ _ fit; error = errors r.dev; up = λ is. ups (parent_of plan r.dev) (rw is (same_self (parent_of plan r.dev).0)); ready = λ is. opens r.dev (rw is (same_self r.dev.0)); enabled_now = now })
resume_calm plan x enabled v t (resume.Waiting r tried) fit errors ups opens now = either (is_moving v r.dev) (λ _. waiting) (λ _.
    verdict_calm plan x enabled v r tried (stage.Resume (resume.Waiting r tried)) refl (λ _. refl) (λ _. refl)
    (record { flags = front _ _ fit; marked = rear _ _ fit; error = errors r.dev; up = λ is. ups (parent_of plan r.dev) (rw is (same_self (parent_of plan r.dev).0)); ready = λ is. opens r.dev (rw is (same_self r.dev.0)); enabled_now = now }))
resume_calm plan x enabled v t (resume.Links r) fit errors ups opens now = links_calm plan x enabled v t r _ (front _ _ fit)
resume_calm plan x enabled v t (resume.Supplied r c) fit errors ups opens now =
    either (is_supplied c) (λ _. links_calm plan x enabled v t r _ (front _ _ fit)) (λ bad. differ (rear (call_flags_fit r) (is_supplied c) fit) bad)
resume_calm plan x enabled v t (resume.Callback r) fit errors ups opens now = quiet (fit_both (call_flags_fit r) true (front _ _ fit) refl) (λ _. refl) (λ _. refl) refl refl
resume_calm plan x enabled v t (resume.Running r since) fit errors ups opens now = ends_calm plan x enabled v r _ (front _ _ fit)
resume_calm plan x enabled v t (resume.Resumed r) fit errors ups opens now = turns (front _ _ fit) refl
resume_calm plan x enabled v t (resume.Idle r) fit errors ups opens now = calm (fit_one (call_flags_fit r) (front _ _ fit)) (λ d t. inl t) (λ d t. cc) refl refl
resume_calm plan x enabled v t (resume.Done r c) fit errors ups opens now =
    returns_calm plan r c _ (stage.Resume (resume.Done r c)) refl (front _ _ fit) (rear (call_flags_fit r) (code_fits x enabled r.purpose r.dev r.flags c) fit) (λ d t. inl t) refl
resume_calm plan x enabled v t (resume.Parent r c) fit errors ups opens now = calm (fit_one _ fit) (λ d t. inl t) (λ d t. cc) refl refl
resume_calm plan x enabled v t (resume.Domain r c) fit errors ups opens now = no_row (call_flags_fit r) fit
resume_calm plan x enabled v t (resume.Unwind r c) fit errors ups opens now = no_row (call_flags_fit r) fit
