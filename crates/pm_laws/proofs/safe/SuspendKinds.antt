-- The rows of suspend, by kinds.
use Rattle.std.proofs.Common.{ℕ, ◌≡◌, Bool, true, false, not, ◌&&◌, ◌||◌, Option, Some, None, ℤ, pos, if◌then◌else◌, refl, sym}
use Rattle.std.specs.Ordering.{int_eq}
use Rattle.std.proofs.lemmas.Bool.{false≢true}
use Rattle.pm_base.specs.declared.Cb.TheVariants as cb
use Rattle.pm_base.specs.declared.DevId.{DevId}
use Rattle.pm_base.specs.declared.codes.TheConstants.{ASYNC, AUTO}
use Rattle.pm_model.specs.declared.event.Event.TheVariants as event
use Rattle.pm_model.specs.declared.event.Word.TheVariants as word
use Rattle.pm_model.specs.declared.plan.Plan.{Plan}
use Rattle.pm_model.specs.declared.stage.Change.TheVariants as change
use Rattle.pm_model.specs.declared.stage.Stage.{Stage}
use Rattle.pm_model.specs.declared.stage.Stage.TheVariants as stage
use Rattle.pm_model.specs.declared.stage.SuspendStage.{SuspendStage}
use Rattle.pm_model.specs.declared.stage.SuspendStage.TheVariants as suspend
use Rattle.pm_model.specs.ChangeViews.{suspend_ended}
use Rattle.pm_model.specs.Derived.{refusal, has, expiry, is_ahead, is_suspending, is_resuming, is_moving, callback_code, first_held}
use Rattle.pm_model.specs.Events.{by_event, is_try_again}
use Rattle.pm_model.specs.PlanRows.{no_callbacks, has_domain}
use Rattle.pm_model.specs.Row.{writes}
use Rattle.pm_model.specs.SuspendTable.{may_not_wait, suspend_goes, suspend_row, suspend_verdict, suspend_ends, suspend_gives, suspend_links, suspend_domain, tells_parent, suspend_parent}
use Rattle.pm_model.specs.Views.{Views, pending_of}
use Rattle.pm_laws.specs.safe.Parts.{Phase, lowering, giving, part, part_of}
use Rattle.pm_laws.specs.safe.Kinds.{may_give, begins_suspend, ends_suspend, fails_suspend, lowers_domain, gives_link, suspends, suspends_quiet}
use Rattle.pm_laws.proofs.safe.RowKinds.{Owes, waiting, either, of_kind, still, alike}

-- a device without callbacks doesn't move
abbrev pub Settled : Plan → Views → Type 0
Settled plan v = (d : DevId) → no_callbacks plan d ≡ true → is_moving v d ≡ false

pub off : (b : Bool) → not b ≡ false → b ≡ true
off true e = refl
off false e = absurd (false≢true (sym e))

stands : (resumes suspends async : Bool) → resumes && not async ≡ false → suspends ≡ false → async ≡ false → suspends || resumes ≡ false
stands true b true p q r = cc
stands true b false p q r = cc
stands false true c p q r = cc
stands false false c p q r = refl

verdict_kind : (plan : Plan) (v : Views) (t : ℕ) (d : DevId) (f : ℕ) → Settled plan v
    → Owes plan v (stage.Suspend (suspend.Verdict d f)) (suspend_verdict plan v d f t)
unfolding suspend_verdict
verdict_kind plan v t d f settled =
    either (not (int_eq (refusal plan v d) (pos 0))) (λ _. search still) (λ free.
    either (is_resuming v d && not (has f ASYNC)) (λ _. search still) (λ not_resuming.
    either (has f AUTO && not (is_suspending v d) && is_ahead (expiry v d) t) (λ _. search still) (λ _.
    either (is_suspending v d && may_not_wait f) (λ _. search still) (λ _.
    either (is_suspending v d) (λ _. search still) (λ not_suspending.
    either (no_callbacks plan d) (λ none. of_kind (suspends_quiet d) refl (λ _ _. refl) refl refl (none, record { free = off _ free; stands = settled d none })) (λ _.
    either (has f ASYNC) (λ _. search still) (λ not_async.
    of_kind (begins_suspend d) refl (λ _ _. refl) refl refl (record { free = off _ free; stands = stands (is_resuming v d) (is_suspending v d) (has f ASYNC) not_resuming not_suspending not_async }))))))))

gives_kind : (plan : Plan) (v : Views) (d : DevId) (f : ℕ) (s : Stage) (x : Phase) → part_of s ≡ part d x → may_give x ≡ true → (o : Option (ℕ × DevId)) → first_held plan v d ≡ o
    → Owes plan v s (suspend_gives v d f o)
gives_kind plan v d f s x is may (Some link) e = of_kind (gives_link d link.1 x giving) is (λ _ _. refl) refl refl (may, refl)
gives_kind plan v d f s x is may None e =
    either (pending_of v d).deferred (λ _. of_kind (suspends d word.Deferred x) is (λ _ _. refl) refl refl (e, refl, may))
    (λ _. of_kind (suspends d word.Suspended x) is (λ _ _. refl) refl refl (e, refl, may))

links_kind : (plan : Plan) (v : Views) (d : DevId) (f : ℕ) (s : Stage) (x : Phase) → part_of s ≡ part d x → may_give x ≡ true → Owes plan v s (suspend_links plan v d f)
unfolding suspend_links
links_kind plan v d f s x is may = gives_kind plan v d f s x is may (first_held plan v d) refl

domain_kind : (plan : Plan) (v : Views) (d : DevId) (f : ℕ) → Owes plan v (stage.Suspend (suspend.Domain d f)) (suspend_domain plan v d f)
unfolding suspend_domain
domain_kind plan v d f =
    either (has_domain plan d) (λ _. of_kind (lowers_domain d _ lowering giving) refl (λ _ _. refl) refl refl refl)
    (λ _. links_kind plan v d f (stage.Suspend (suspend.Domain d f)) lowering refl refl)

parent_kind : (plan : Plan) (v : Views) (d : DevId) (f : ℕ) → Owes plan v (stage.Suspend (suspend.Parent d f)) (suspend_parent plan v d f)
unfolding suspend_parent
parent_kind plan v d f = either (tells_parent plan v d) (λ _. search still) (λ _. search still)

ends_kind : (plan : Plan) (v : Views) (t : ℕ) (d : DevId) (f since : ℕ) → Owes plan v (stage.Suspend (suspend.Running d f since)) (suspend_ends plan v d f t)
unfolding suspend_ends
ends_kind plan v t d f since = go (int_eq c (pos 0)) refl (is_try_again c && has f AUTO && is_ahead (expiry after d) t)
  where
    c : ℤ
    c = callback_code plan v cb.Suspend d

    after : Views
    after = by_event plan t (event.End d cb.Suspend c) (suspend_ended plan d c t v)

    go : (b : Bool) → int_eq c (pos 0) ≡ b → (again : Bool)
        → Owes plan v (stage.Suspend (suspend.Running d f since)) (writes (event.End d cb.Suspend c) (change.SuspendEnded d c) (if b then suspend_goes (suspend.Domain d f) else if again then suspend_goes (suspend.Verdict d f) else suspend_goes (suspend.Done d f c)))
    go true z again = of_kind (ends_suspend d c) refl (λ _ _. refl) refl refl z
    go false z true = of_kind (fails_suspend d c) refl (λ _ _. refl) refl refl z
    go false z false = of_kind (fails_suspend d c) refl (λ _ _. refl) refl refl z

pub suspend_kind : (plan : Plan) (v : Views) (t : ℕ) (s : SuspendStage) → Settled plan v → Owes plan v (stage.Suspend s) (suspend_row plan v s t)
suspend_kind plan v t (suspend.Enter d f) settled = search still
suspend_kind plan v t (suspend.Verdict d f) settled = verdict_kind plan v t d f settled
suspend_kind plan v t (suspend.Waiting d f) settled = either (is_moving v d) (λ _. waiting) (λ _. alike (stage.Suspend (suspend.Verdict d f)) refl (verdict_kind plan v t d f settled))
suspend_kind plan v t (suspend.Running d f since) settled = ends_kind plan v t d f since
suspend_kind plan v t (suspend.Domain d f) settled = domain_kind plan v d f
suspend_kind plan v t (suspend.Links d f) settled = links_kind plan v d f (stage.Suspend (suspend.Links d f)) giving refl refl
suspend_kind plan v t (suspend.Deferred d f) settled = search still
suspend_kind plan v t (suspend.Parent d f) settled = parent_kind plan v d f
suspend_kind plan v t (suspend.Done d f c) settled = search still
