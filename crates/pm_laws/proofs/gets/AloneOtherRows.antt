-- The rows of idle and of suspend in a get_sync's call, and those of the get_sync itself.
use Rattle.std.proofs.Common.{ℕ, ◌≡◌, Bool, true, false, not, ◌&&◌, ℤ, pos, refl, sym, subst}
use Rattle.std.specs.Ordering.{int_eq}
use Rattle.pm_base.specs.declared.DevId.{DevId}
use Rattle.pm_base.specs.declared.Status.TheVariants as status
use Rattle.pm_base.specs.declared.codes.TheConstants.{ASYNC, AUTO}
use Rattle.pm_model.specs.declared.event.Event.TheVariants as event
use Rattle.pm_model.specs.declared.event.Helper.{Helper}
use Rattle.pm_model.specs.declared.event.Helper.TheVariants as helper
use Rattle.pm_model.specs.declared.event.Word.TheVariants as word
use Rattle.pm_model.specs.declared.plan.Plan.{Plan}
use Rattle.pm_model.specs.declared.stage.Change.{Change}
use Rattle.pm_model.specs.declared.stage.Change.TheVariants as change
use Rattle.pm_model.specs.declared.stage.HelperStage.{HelperStage}
use Rattle.pm_model.specs.declared.stage.HelperStage.TheVariants as at
use Rattle.pm_model.specs.declared.stage.IdleStage.{IdleStage}
use Rattle.pm_model.specs.declared.stage.IdleStage.TheVariants as idle
use Rattle.pm_model.specs.declared.stage.Stage.{Stage}
use Rattle.pm_model.specs.declared.stage.Stage.TheVariants as stage
use Rattle.pm_model.specs.declared.stage.SuspendStage.{SuspendStage}
use Rattle.pm_model.specs.declared.stage.SuspendStage.TheVariants as suspend
use Rattle.pm_model.specs.Counted.{is_same, only_if}
use Rattle.pm_model.specs.Derived.{has, refusal, is_ahead, is_resuming, is_suspending, expiry}
use Rattle.pm_model.specs.HelperTable.{helper_starts, helper_row}
use Rattle.pm_model.specs.IdleTable.{idle_verdict, idle_ends, after_put, idle_row}
use Rattle.pm_model.specs.PlanRows.{no_callbacks}
use Rattle.pm_model.specs.Row.{Row, writes, helper_returns}
use Rattle.pm_model.specs.SuspendTable.{suspend_goes, suspend_verdict, suspend_parent, suspend_row, may_not_wait}
use Rattle.pm_model.specs.Views.{Views}
use Rattle.pm_laws.proofs.counts.HelperRows.{command}
use Rattle.pm_laws.specs.stacks.Shape.{Fits, is_odd}
use Rattle.pm_laws.proofs.stacks.Obeying.{Obeys, both, both_next, either}
use Rattle.pm_laws.proofs.stacks.Tests.{front, same_device}
use Rattle.pm_laws.proofs.safe.Steps.{differ}
use Rattle.pm_laws.specs.gets.Answered.{is_get_sync}
use Rattle.pm_laws.proofs.gets.Watching.{Carefully, quiet, is_off}

abbrev pub Cares : Plan → Views → Stage → Row → Type 0
Cares plan v s row = Obeys (Carefully plan v s) row

-- idle
idle_verdict_cares : (plan : Plan) (v : Views) (t : ℕ) (d : DevId) (f : ℕ) → Cares plan v (stage.Idle (idle.Verdict d f)) (idle_verdict plan v d f t)
unfolding idle_verdict
idle_verdict_cares plan v t d f = search (both, quiet) depth 30

idle_ends_cares : (plan : Plan) (v : Views) (t : ℕ) (d : DevId) (f since : ℕ) → Cares plan v (stage.Idle (idle.Running d f since)) (idle_ends plan v d f t)
unfolding idle_ends
idle_ends_cares plan v t d f since = search quiet depth 20

after_put_cares : (plan : Plan) (v : Views) (d : DevId) (f : ℕ) → Cares plan v (stage.Idle (idle.AfterPut d f)) (after_put plan v d f)
unfolding after_put
after_put_cares plan v d f = search (both, quiet) depth 20

pub idle_cares : (plan : Plan) (v : Views) (t : ℕ) (s : IdleStage) → Cares plan v (stage.Idle s) (idle_row plan v s t)
idle_cares plan v t (idle.Enter d f) = search quiet depth 20
idle_cares plan v t (idle.Verdict d f) = idle_verdict_cares plan v t d f
idle_cares plan v t (idle.Running d f since) = idle_ends_cares plan v t d f since
idle_cares plan v t (idle.Done d f c) = search (both_next, quiet) depth 20
idle_cares plan v t (idle.Queued d f) = search quiet depth 20
idle_cares plan v t (idle.AfterPut d f) = after_put_cares plan v d f

-- suspend, with ASYNC
asks : (f : ℕ) → is_odd f ≡ true → has f ASYNC ≡ true
asks f odd = front _ _ odd

-- only a device without callbacks is suspended
settles : (plan : Plan) (x d : DevId) → no_callbacks plan d ≡ true → no_callbacks plan x ≡ false → is_off (only_if (is_same x d) status.Suspended) ≡ false
settles plan x d bare has = go (is_same x d) refl
  where
    go : (b : Bool) → is_same x d ≡ b → is_off (only_if b status.Suspended) ≡ false
    go false e = refl
    go true e = let same : d ≡ x = same_device d x e in differ bare (subst (λ y. no_callbacks plan y ≡ false) (sym same) has)

suspends_quiet : (plan : Plan) (v : Views) (d : DevId) (f : ℕ) (change : Change) → no_callbacks plan d ≡ true
    → Cares plan v (stage.Suspend (suspend.Verdict d f)) (writes (event.State d word.Suspended) change (suspend_goes (suspend.Parent d f)))
suspends_quiet plan v d f change bare = record {
  paid = record {
    begins = λ x t. cc;
    comes = λ x t. cc;
    leaves = λ x t. cc;
    stays = λ x up has. settles plan x d bare has;
    clears = λ x. refl;
    frees = λ c t is. cc;
    takes = λ held is. refl;
    roots = λ e t. cc;
  };
}

suspend_verdict_cares : (plan : Plan) (v : Views) (t : ℕ) (d : DevId) (f : ℕ) → has f ASYNC ≡ true → Cares plan v (stage.Suspend (suspend.Verdict d f)) (suspend_verdict plan v d f t)
unfolding suspend_verdict
suspend_verdict_cares plan v t d f async =
    both (not (int_eq (refusal plan v d) (pos 0))) (quiet (λ _. refl) (λ _. refl) (λ _. refl) (λ _. refl) (λ _. refl) (λ _ _. refl) (λ _. refl) (λ _. refl)) (
    both (is_resuming v d && not (has f ASYNC)) (quiet (λ _. refl) (λ _. refl) (λ _. refl) (λ _. refl) (λ _. refl) (λ _ _. refl) (λ _. refl) (λ _. refl)) (
    both (has f AUTO && not (is_suspending v d) && is_ahead (expiry v d) t) (quiet (λ _. refl) (λ _. refl) (λ _. refl) (λ _. refl) (λ _. refl) (λ _ _. refl) (λ _. refl) (λ _. refl)) (
    both (is_suspending v d && may_not_wait f) (quiet (λ _. refl) (λ _. refl) (λ _. refl) (λ _. refl) (λ _. refl) (λ _ _. refl) (λ _. refl) (λ _. refl)) (
    both (is_suspending v d) (quiet (λ _. refl) (λ _. refl) (λ _. refl) (λ _. refl) (λ _. refl) (λ _ _. refl) (λ _. refl) (λ _. refl)) (
    either (no_callbacks plan d) (λ bare. suspends_quiet plan v d f _ bare) (λ _.
    either (has f ASYNC) (λ _. (quiet (λ _. refl) (λ _. refl) (λ _. refl) (λ _. refl) (λ _. refl) (λ _ _. refl) (λ _. refl) (λ _. refl))) (λ no. differ async no)))))))

suspend_parent_cares : (plan : Plan) (v : Views) (d : DevId) (f : ℕ) → Cares plan v (stage.Suspend (suspend.Parent d f)) (suspend_parent plan v d f)
unfolding suspend_parent
suspend_parent_cares plan v d f = search (both, quiet) depth 20

-- the flags of a suspend
abbrev pub suspend_flags : SuspendStage → ℕ
suspend_flags (suspend.Enter d f) = f
suspend_flags (suspend.Verdict d f) = f
suspend_flags (suspend.Waiting d f) = f
suspend_flags (suspend.Running d f since) = f
suspend_flags (suspend.Domain d f) = f
suspend_flags (suspend.Links d f) = f
suspend_flags (suspend.Deferred d f) = f
suspend_flags (suspend.Parent d f) = f
suspend_flags (suspend.Done d f c) = f

pub suspend_cares : (plan : Plan) (v : Views) (t : ℕ) (s : SuspendStage) → Fits plan (stage.Suspend s) → has (suspend_flags s) ASYNC ≡ true → Cares plan v (stage.Suspend s) (suspend_row plan v s t)
suspend_cares plan v t (suspend.Enter d f) fits async = search quiet depth 20
suspend_cares plan v t (suspend.Verdict d f) fits async = suspend_verdict_cares plan v t d f async
suspend_cares plan v t (suspend.Waiting d f) fits async = let waits : may_not_wait f ≡ true = rw async refl in differ waits fits
suspend_cares plan v t (suspend.Running d f since) fits async = differ async fits
suspend_cares plan v t (suspend.Domain d f) fits async = differ async fits
suspend_cares plan v t (suspend.Links d f) fits async = differ async fits
suspend_cares plan v t (suspend.Deferred d f) fits async = differ async fits
suspend_cares plan v t (suspend.Parent d f) fits async = suspend_parent_cares plan v d f
suspend_cares plan v t (suspend.Done d f c) fits async = search quiet depth 20

-- get_sync
get_cares : (plan : Plan) (v : Views) (h : Helper) (d : DevId) (n : ℤ) → is_get_sync h ≡ true → Cares plan v (stage.Helper (at.Start (command h d n))) (helper_starts v (command h d n))
unfolding helper_starts
get_cares plan v helper.GetSync d n is = record {
  paid = record {
    begins = λ x t. cc;
    comes = λ x t. cc;
    leaves = λ x t. cc;
    stays = λ x up has. refl;
    clears = λ x. refl;
    frees = λ c t is. cc;
    takes = λ held is. refl;
    roots = λ e is goes. is;
  };
}
get_cares plan v _ d n is = cc

ret_cares : (plan : Plan) (v : Views) (h : Helper) (d : DevId) (c : ℤ) → Cares plan v (stage.Helper (at.Ret h d c)) (helper_returns h d c change.Same)
ret_cares plan v h d c = record {
  paid = record {
    begins = λ x t. cc;
    comes = λ x t. cc;
    leaves = λ x t. cc;
    stays = λ x up has. refl;
    clears = λ x. refl;
    frees = λ c t is. cc;
    takes = λ held is. refl;
    roots = λ e is goes. cc;
  };
}

-- the stages of a get_sync itself
abbrev pub is_own : HelperStage → Bool
is_own (at.Start c) = is_get_sync c.helper
is_own (at.Ret h d c) = true
is_own _ = false

pub helper_cares : (plan : Plan) (v : Views) (t : ℕ) (s : HelperStage) → is_own s ≡ true → Cares plan v (stage.Helper s) (helper_row plan v s t)
helper_cares plan v t (at.Start c) is = get_cares plan v c.helper c.dev c.number is
helper_cares plan v t (at.Ret h d c) is = ret_cares plan v h d c
helper_cares plan v t _ is = cc
