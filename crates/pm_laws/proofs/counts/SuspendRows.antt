-- The rows of suspend.
use Rattle.std.proofs.Common.{ℕ, ◌≡◌, Bool, true, false, not, ◌&&◌, ◌||◌, Option, Some, None, ℤ, pos, if◌then◌else◌, refl, sym}
use Rattle.std.specs.Ordering.{int_eq}
use Rattle.std.proofs.lemmas.Bool.{false≢true}
use Rattle.pm_base.specs.declared.Cb.TheVariants as cb
use Rattle.pm_base.specs.declared.DevId.{DevId}
use Rattle.pm_base.specs.declared.Status.TheVariants as status
use Rattle.pm_base.specs.declared.codes.TheConstants.{ASYNC, AUTO}
use Rattle.pm_model.specs.declared.event.Event.TheVariants as event
use Rattle.pm_model.specs.declared.plan.Plan.{Plan}
use Rattle.pm_model.specs.declared.stage.Stage.TheVariants as stage
use Rattle.pm_model.specs.declared.stage.SuspendStage.{SuspendStage}
use Rattle.pm_model.specs.declared.stage.SuspendStage.TheVariants as suspend
use Rattle.pm_model.specs.declared.stage.Then.{Then}
use Rattle.pm_model.specs.ChangeViews.{suspend_ended}
use Rattle.pm_model.specs.Counted.{is_same, only_if, says_status}
use Rattle.pm_model.specs.Derived.{refusal, has, expiry, is_ahead, is_suspending, is_resuming, is_moving, callback_code, first_held}
use Rattle.pm_model.specs.Events.{by_event, is_try_again}
use Rattle.pm_model.specs.PlanRows.{no_callbacks, has_domain}
use Rattle.pm_model.specs.SuspendTable.{suspend_goes, may_not_wait, suspend_row, suspend_verdict, suspend_ends, suspend_gives, suspend_links, suspend_domain, tells_parent, suspend_parent}
use Rattle.pm_model.specs.Views.{Views, pending_of}
use Rattle.pm_laws.proofs.counts.Accounts.{quiet, turn}
use Rattle.pm_laws.proofs.counts.Givings.{gave_link}
use Rattle.pm_laws.proofs.counts.Links.{held_found}
use Rattle.pm_laws.proofs.counts.Owning.{OwnsNext, none, unturned, stays_still, begins_suspend, ends_suspend}
use Rattle.pm_laws.proofs.counts.Rows.{Known, Owes, Owning, SameHolds, either, either_next, alike, waiting}

verdict_keeps : (plan : Plan) (v : Views) (t : ℕ) (d : DevId) (f : ℕ) → Known plan v
    → Owes plan v t (stage.Suspend (suspend.Verdict d f)) (suspend_verdict plan v d f t)
unfolding suspend_verdict
verdict_keeps plan v t d f k =
    either (not (int_eq (refusal plan v d) (pos 0))) (λ _. search quiet) (λ _.
    either (is_resuming v d && not (has f ASYNC)) (λ _. search quiet) (λ not_resuming.
    either (has f AUTO && not (is_suspending v d) && is_ahead (expiry v d) t) (λ _. search quiet) (λ _.
    either (is_suspending v d && may_not_wait f) (λ _. search quiet) (λ _.
    either (is_suspending v d) (λ _. search quiet) (λ not_suspending.
    either (no_callbacks plan d) (λ none. turn k tt tt (stays_still d status.Suspended (k.settled d none) refl (λ _. refl) (λ _. (refl, refl)) (λ _. (refl, refl))) (λ _. refl)) (λ has_callbacks.
    either (has f ASYNC) (λ _. search quiet) (λ not_async.
    turn k tt tt (begins_suspend d (stands (is_suspending v d) (is_resuming v d) (has f ASYNC) not_resuming not_suspending not_async) has_callbacks (λ _. refl) (λ _. (refl, refl)) (λ _. (refl, refl))) (λ _. refl))))))))
  where
    stands : (a b c : Bool) → b && not c ≡ false → a ≡ false → c ≡ false → a || b ≡ false
    stands true b c p q r = absurd (false≢true (sym q))
    stands false true true p q r = absurd (false≢true (sym r))
    stands false true false p q r = absurd (false≢true (sym p))
    stands false false c p q r = refl

gives_keep : (plan : Plan) (v : Views) (t : ℕ) (d : DevId) (f : ℕ) → Known plan v → (x : Option (ℕ × DevId)) → first_held plan v d ≡ x
    → Owes plan v t (stage.Suspend (suspend.Links d f)) (suspend_gives v d f x)
gives_keep plan v t d f k (Some link) e = gave_link d link.1 k tt (held_found plan v d link e) (λ _. (refl, refl)) (λ _. refl)
gives_keep plan v t d f k None e =
    either (pending_of v d).deferred (λ _. turn k tt tt (ends_suspend d status.Suspended refl (λ _. refl) (λ _. (refl, refl)) (λ _. (refl, refl))) (λ _. refl))
    (λ _. turn k tt tt (ends_suspend d status.Suspended refl (λ _. refl) (λ _. (refl, refl)) (λ _. (refl, refl))) (λ _. refl))

links_keep : (plan : Plan) (v : Views) (t : ℕ) (d : DevId) (f : ℕ) → Known plan v
    → Owes plan v t (stage.Suspend (suspend.Links d f)) (suspend_links plan v d f)
unfolding suspend_links
links_keep plan v t d f k = gives_keep plan v t d f k (first_held plan v d) refl

domain_keeps : (plan : Plan) (v : Views) (t : ℕ) (d : DevId) (f : ℕ) → Known plan v
    → Owes plan v t (stage.Suspend (suspend.Domain d f)) (suspend_domain plan v d f)
unfolding suspend_domain
domain_keeps plan v t d f k =
    either (has_domain plan d) (λ _. search quiet)
    (λ _. alike (stage.Suspend (suspend.Links d f)) (λ _. (refl, refl)) (λ _. refl) (links_keep plan v t d f k))

parent_keeps : (plan : Plan) (v : Views) (t : ℕ) (d : DevId) (f : ℕ) → Known plan v
    → Owes plan v t (stage.Suspend (suspend.Parent d f)) (suspend_parent plan v d f)
unfolding suspend_parent
parent_keeps plan v t d f k = either (tells_parent plan v d) (λ _. search quiet) (λ _. search quiet)

-- where it goes on
abbrev after_end : DevId → ℕ → ℤ → Bool → Then
after_end d f c again = if int_eq c (pos 0) then suspend_goes (suspend.Domain d f) else if again then suspend_goes (suspend.Verdict d f) else suspend_goes (suspend.Done d f c)

-- the suspend goes on, or it has failed and the device is active
ended_owning : (plan : Plan) (v : Views) (d : DevId) (f since : ℕ) (c : ℤ) (again : Bool)
    → Owning plan v (stage.Suspend (suspend.Running d f since)) (event.End d cb.Suspend c) (after_end d f c again)
ended_owning plan v d f since c again = go (int_eq c (pos 0)) refl
  where
    none_said : int_eq c (pos 0) ≡ true → (x : DevId) → says_status x (event.End d cb.Suspend c) ≡ None
    none_said z x = rw z refl

    active_said : int_eq c (pos 0) ≡ false → (x : DevId) → says_status x (event.End d cb.Suspend c) ≡ only_if (is_same x d) status.Active
    active_said z x = rw z refl

    go : (b : Bool) → int_eq c (pos 0) ≡ b
        → Owning plan v (stage.Suspend (suspend.Running d f since)) (event.End d cb.Suspend c) (after_end d f c again)
    go true z = unturned (none_said z) (λ x. rw z (refl, refl))
    go false z =
        let failed = if again then suspend_goes (suspend.Verdict d f) else suspend_goes (suspend.Done d f c) in
        let light : OwnsNext failed none none = either_next (λ next. OwnsNext next none none) again (suspend_goes (suspend.Verdict d f)) (suspend_goes (suspend.Done d f c)) (λ _. (refl, refl)) (λ _. (refl, refl)) in
        ends_suspend d status.Active refl (active_said z) (λ _. (refl, refl)) (λ x. rw z (light x))

ended_holds : (plan : Plan) (d : DevId) (f since : ℕ) (c : ℤ) (again : Bool)
    → SameHolds plan (stage.Suspend (suspend.Running d f since)) (after_end d f c again)
ended_holds plan d f since c again =
    let same = SameHolds plan (stage.Suspend (suspend.Running d f since)) in
    let failed = if again then suspend_goes (suspend.Verdict d f) else suspend_goes (suspend.Done d f c) in
    either_next same (int_eq c (pos 0)) (suspend_goes (suspend.Domain d f)) failed (λ _. refl) (either_next same again (suspend_goes (suspend.Verdict d f)) (suspend_goes (suspend.Done d f c)) (λ _. refl) (λ _. refl))

ends_keep : (plan : Plan) (v : Views) (t : ℕ) (d : DevId) (f since : ℕ) → Known plan v
    → Owes plan v t (stage.Suspend (suspend.Running d f since)) (suspend_ends plan v d f t)
unfolding suspend_ends
ends_keep plan v t d f since k =
    let c = callback_code plan v cb.Suspend d in
    let after = by_event plan t (event.End d cb.Suspend c) (suspend_ended plan d c t v) in
    let again = is_try_again c && has f AUTO && is_ahead (expiry after d) t in
    turn k tt tt (ended_owning plan v d f since c again) (ended_holds plan d f since c again)

pub suspend_keeps : (plan : Plan) (v : Views) (t : ℕ) (s : SuspendStage) → Known plan v → Owes plan v t (stage.Suspend s) (suspend_row plan v s t)
suspend_keeps plan v t (suspend.Enter d f) k = search quiet
suspend_keeps plan v t (suspend.Verdict d f) k = verdict_keeps plan v t d f k
suspend_keeps plan v t (suspend.Waiting d f) k = either (is_moving v d) (λ _. waiting) (λ _. alike (stage.Suspend (suspend.Verdict d f)) (λ _. (refl, refl)) (λ _. refl) (verdict_keeps plan v t d f k))
suspend_keeps plan v t (suspend.Running d f since) k = ends_keep plan v t d f since k
suspend_keeps plan v t (suspend.Domain d f) k = domain_keeps plan v t d f k
suspend_keeps plan v t (suspend.Links d f) k = links_keep plan v t d f k
suspend_keeps plan v t (suspend.Deferred d f) k = search quiet
suspend_keeps plan v t (suspend.Parent d f) k = parent_keeps plan v t d f k
suspend_keeps plan v t (suspend.Done d f c) k = search quiet
