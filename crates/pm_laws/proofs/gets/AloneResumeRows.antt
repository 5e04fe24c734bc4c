-- The rows of resume in a get_sync's call.
use Rattle.std.proofs.Common.{ℕ, ◌≡◌, inl, inr, Bool, true, false, not, ◌&&◌, Option, Some, None, ℤ, pos, length, if◌then◌else◌, refl, ◌∙◌, subst}
use Rattle.std.specs.Ordering.{int_eq}
use Rattle.pm_base.specs.declared.Cb.TheVariants as cb
use Rattle.pm_base.specs.declared.DevId.{DevId}
use Rattle.pm_base.specs.declared.Status.TheVariants as status
use Rattle.pm_base.specs.declared.codes.TheConstants.{ASYNC}
use Rattle.pm_model.specs.declared.event.Event.TheVariants as event
use Rattle.pm_model.specs.declared.event.Word.TheVariants as word
use Rattle.pm_model.specs.declared.plan.Plan.{Plan}
use Rattle.pm_model.specs.declared.stage.Change.{Change}
use Rattle.pm_model.specs.declared.stage.Change.TheVariants as change
use Rattle.pm_model.specs.declared.stage.ResumeCall.{ResumeCall}
use Rattle.pm_model.specs.declared.stage.ResumeStage.{ResumeStage}
use Rattle.pm_model.specs.declared.stage.ResumeStage.TheVariants as resume
use Rattle.pm_model.specs.declared.stage.Stage.{Stage}
use Rattle.pm_model.specs.declared.stage.Stage.TheVariants as stage
use Rattle.pm_model.specs.Counted.{is_same, only_if}
use Rattle.pm_model.specs.Derived.{has, has_error, is_disabled, is_active, is_suspending, is_resuming, is_moving, minds_parent, awaits_parent, callback_code, up, first_free, first_held}
use Rattle.pm_model.specs.PlanRows.{no_callbacks, has_domain, has_parent}
use Rattle.pm_model.specs.ResumeTable.{resume_goes, leaves, resume_returns, resume_verdict, resume_takes, resume_links, resume_begins, resume_gives, resume_unwinds, resume_domain, is_supplied, resume_ends, resume_row}
use Rattle.pm_model.specs.Row.{writes, back}
use Rattle.pm_model.specs.SuspendTable.{may_not_wait}
use Rattle.pm_model.specs.Views.{Views, device}
use Rattle.pm_laws.specs.counts.Sums.{one}
use Rattle.pm_laws.specs.counts.Owners.{owns_resume}
use Rattle.pm_laws.specs.stacks.Shape.{IsLink}
use Rattle.pm_laws.proofs.stacks.Found.{free_is}
use Rattle.pm_laws.proofs.stacks.Obeying.{waiting, both, either}
use Rattle.pm_laws.proofs.stacks.Tests.{same_device, same_self}
use Rattle.pm_laws.proofs.safe.Steps.{differ}
use Rattle.pm_laws.proofs.gets.Passing.{tells}
use Rattle.pm_laws.proofs.gets.AloneOtherRows.{Cares}
use Rattle.pm_laws.proofs.gets.Watching.{gathers, calls_back, lacks, is_get_of, no_end, is_off, is_on, is_clear, fails, quiet}

-- after a return line the call ends, or R7 follows
leaves_none : (plan : Plan) (r : ResumeCall) (c : ℤ) (test : Stage → Bool) (s : Stage) → test (stage.Resume (resume.Parent r c)) ≡ false
    → tells test no_end s (leaves plan r c) ≡ false
unfolding leaves
leaves_none plan r c test s fails_it = go (r.held && has_parent plan r.dev)
  where
    go : (b : Bool) → tells test no_end s (if b then resume_goes (resume.Parent r c) else back c) ≡ false
    go true = fails_it
    go false = refl

-- a stage of a resume at which no callback runs, and that isn't the get_sync's own
pub record IsPlain (s : Stage) : Type 0 where
  pub idle : (x : DevId) → calls_back x s ≡ false
  pub apart : (d : DevId) → is_get_of d s ≡ false

returns_cares : (plan : Plan) (v : Views) (r : ResumeCall) (c : ℤ) (change : Change) (s : Stage) → IsPlain s → Cares plan v s (resume_returns plan r c change)
returns_cares plan v r c change s is =
    quiet (λ _. refl) (λ x. leaves_none plan r c (gathers x) s refl) is.idle (λ _. refl) (λ _. refl) (λ _ _. refl) (λ held. leaves_none plan r c (lacks held) s refl) is.apart

-- a status line of a device that isn't Active
turned_off : (v : Views) (x d : DevId) (b : Bool) → is_same x d ≡ b → is_active v d ≡ false → is_active v x ≡ true → b ≡ false
turned_off v x d false e down up = refl
turned_off v x d true e down up = let same : d ≡ x = same_device d x e in differ up (subst (λ y. is_active v y ≡ false) same down)

stays_on : (v : Views) (x d : DevId) → is_active v d ≡ false → is_active v x ≡ true → is_off (only_if (is_same x d) status.Resuming) ≡ false
stays_on v x d down up = rw (turned_off v x d (is_same x d) refl down up) refl

stays_up : (v : Views) (x d : DevId) → is_active v d ≡ false → is_active v x ≡ true → is_off (only_if (is_same x d) status.Suspended) ≡ false
stays_up v x d down up = rw (turned_off v x d (is_same x d) refl down up) refl

on_now : (b : Bool) → is_off (only_if b status.Active) ≡ false
on_now true = refl
on_now false = refl

still_same : (x d : DevId) (P : DevId → Bool) → is_same x d ≡ true → P d ≡ false → P x ≡ false
still_same x d P same e = let k : d ≡ x = same_device d x same in subst (λ y. P y ≡ false) k e

-- R1
enters_cares : (plan : Plan) (v : Views) (r : ResumeCall) (change : Change) (s : Stage) → IsPlain s → has_error v r.dev ≡ false → is_active v r.dev ≡ false
    → Cares plan v s (writes (event.State r.dev word.Resuming) change (resume_goes (resume.Links r)))
enters_cares plan v r change s is good down = record {
  paid = record {
    begins = λ x t. cc;
    comes = λ x same. inr (still_same x r.dev (is_active v) same down, still_same x r.dev (has_error v) same good, is.idle x);
    leaves = λ x t. differ t (is.idle x);
    stays = λ x up has. stays_on v x r.dev down up;
    clears = λ x. refl;
    frees = λ c t is. cc;
    takes = λ held is. refl;
    roots = λ d t. differ t (is.apart d);
  };
}

turns_cares : (plan : Plan) (v : Views) (r : ResumeCall) (change : Change) (s : Stage) → IsPlain s
    → Cares plan v s (writes (event.State r.dev word.Active) change (resume_goes (resume.Idle r)))
turns_cares plan v r change s is = record {
  paid = record {
    begins = λ x t. cc;
    comes = λ x t. cc;
    leaves = λ x t. differ t (is.idle x);
    stays = λ x up has. on_now (is_same x r.dev);
    clears = λ x. refl;
    frees = λ c t is. cc;
    takes = λ held is. refl;
    roots = λ d t. differ t (is.apart d);
  };
}

verdict_cares : (plan : Plan) (v : Views) (r : ResumeCall) (tried : Bool) (s : Stage) → IsPlain s → Cares plan v s (resume_verdict plan v r tried)
unfolding resume_verdict
verdict_cares plan v r tried s is =
    let d = r.dev in
    let f = r.flags in
    either (has_error v d) (λ _. returns_cares plan v r _ _ s is) (λ good.
    both (is_disabled v d && is_active v d && (device v d).last_active) (returns_cares plan v r _ _ s is) (
    both (is_disabled v d) (returns_cares plan v r _ _ s is) (
    either (is_active v d) (λ _. returns_cares plan v r _ _ s is) (λ down.
    both (is_suspending v d && may_not_wait f) (quiet (λ _. refl) (λ _. refl) is.idle (λ _. refl) (λ _. refl) (λ _ _. refl) (λ _. refl) is.apart) (
    both (is_resuming v d && may_not_wait f) (returns_cares plan v r _ _ s is) (
    both (is_moving v d) (quiet (λ _. refl) (λ _. refl) is.idle (λ _. refl) (λ _. refl) (λ _ _. refl) (λ _. refl) is.apart) (
    both (has f ASYNC) (quiet (λ _. refl) (λ _. refl) is.idle (λ _. refl) (λ _. refl) (λ _ _. refl) (λ _. refl) is.apart) (
    both (has_parent plan d && not r.held) (quiet (λ _. refl) (λ _. refl) is.idle (λ _. refl) (λ _. refl) (λ _ _. refl) (λ _. refl) is.apart) (
    both (minds_parent plan v d && not tried) (quiet (λ _. refl) (λ _. refl) is.idle (λ _. refl) (λ _. refl) (λ _ _. refl) (λ _. refl) is.apart) (
    both (awaits_parent plan v d) (returns_cares plan v r _ _ s is) (
    both (no_callbacks plan d) (turns_cares plan v r _ s is) (enters_cares plan v r _ s is good down))))))))))))

-- R2, R3 with a supplier that is up, and R4: the stage gathers for its device
pub record Gathers (r : ResumeCall) (s : Stage) : Type 0 where
  pub plain : IsPlain s
  pub is : (x : DevId) → gathers x s ≡ is_same x r.dev

never_freed : {A : Type 0} (b : Bool) → only_if b true ≡ Some false → A
never_freed true e = cc
never_freed false e = cc

same_pair : (d s : DevId) → only_if (is_same s s && is_same d d) true ≡ Some true
same_pair d s = rw (same_self s.0, same_self d.0) refl

begins_cares : (plan : Plan) (v : Views) (r : ResumeCall) (t : ℕ) (s : Stage) → Gathers r s → Cares plan v s (resume_begins r t)
begins_cares plan v r t s is = record {
  paid = record {
    begins = λ x same. (is.is x ∙ same, same, refl);
    comes = λ x t. cc;
    leaves = λ x t. differ t (is.plain.idle x);
    stays = λ x up has. refl;
    clears = λ x. refl;
    frees = λ c t is. cc;
    takes = λ held is. refl;
    roots = λ d t. differ t (is.plain.apart d);
  };
}

not_up : (b : Bool) → b ≡ true → not b ≡ false
not_up true e = refl
not_up false e = cc

takes_cares : (plan : Plan) (v : Views) (r : ResumeCall) (t : ℕ) (s : Stage) (o : Option (ℕ × DevId)) → ((x : ℕ × DevId) → o ≡ Some x → IsLink plan x.0 r.dev x.1) → Gathers r s
    → Cares plan v s (resume_takes plan v r t o)
takes_cares plan v r t s (Some link) found is = record {
  paid = record {
    begins = λ x same. cc;
    comes = λ x t. inl (is.is x ∙ t);
    leaves = λ x t. differ t (is.plain.idle x);
    stays = λ x up has. refl;
    clears = λ x. refl;
    frees = λ c t e. never_freed (is_same t link.1 && is_same c r.dev) e;
    takes = λ held all. not_up (held link.0) (all link.0 r.dev link.1 (found link refl) (same_pair r.dev link.1));
    roots = λ d t. differ t (is.plain.apart d);
  };
}
takes_cares plan v r t s None found is = both (has_domain plan r.dev) ups (begins_cares plan v r t s is)
  where
    ups : Cares plan v s (writes (event.Domain r.dev true (length (up plan v r.dev))) change.Same (resume_goes (resume.Callback r)))
    ups = record {
      paid = record {
        begins = λ x same. cc;
        comes = λ x t. inl (is.is x ∙ t);
        leaves = λ x t. differ t (is.plain.idle x);
        stays = λ x up has. refl;
        clears = λ x. refl;
        frees = λ c t e. cc;
        takes = λ held all. refl;
        roots = λ d t. differ t (is.plain.apart d);
      };
    }

links_cares : (plan : Plan) (v : Views) (r : ResumeCall) (t : ℕ) (s : Stage) → Gathers r s → Cares plan v s (resume_links plan v r t)
unfolding resume_links
links_cares plan v r t s is = takes_cares plan v r t s (first_free plan v r.dev) (λ x e. free_is plan v r.dev x e) is

-- R8 and R9, and R3 where a supplier failed: the stage owns its device, which isn't Active
pub record Owns (v : Views) (r : ResumeCall) (s : Stage) : Type 0 where
  pub plain : IsPlain s
  pub is : (x : DevId) → owns_resume x s ≡ one (is_same x r.dev)
  pub down : is_active v r.dev ≡ false

freed_own : (v : Views) (r : ResumeCall) (s : Stage) (c t d : DevId) → Owns v r s → only_if (is_same t d && is_same c r.dev) false ≡ Some false → owns_resume c s ≡ 1
freed_own v r s c t d is e = is.is c ∙ go (is_same t d) (is_same c r.dev) e
  where
    go : (a b : Bool) → only_if (a && b) false ≡ Some false → one b ≡ 1
    go true true e = refl
    go true false e = cc
    go false b e = cc

gives_cares : (plan : Plan) (v : Views) (r : ResumeCall) (c : ℤ) (s : Stage) (o : Option (ℕ × DevId)) → Owns v r s → Cares plan v s (resume_gives v r c o)
gives_cares plan v r c s (Some link) is = record {
  paid = record {
    begins = λ x same. cc;
    comes = λ x t. cc;
    leaves = λ x t. differ t (is.plain.idle x);
    stays = λ x up has. refl;
    clears = λ x. refl;
    frees = λ k t e. freed_own v r s k t link.1 is e;
    takes = λ held all. refl;
    roots = λ d t. differ t (is.plain.apart d);
  };
}
gives_cares plan v r c s None is = record {
  paid = record {
    begins = λ x same. cc;
    comes = λ x t. cc;
    leaves = λ x t. differ t (is.plain.idle x);
    stays = λ x up has. stays_up v x r.dev is.down up;
    clears = λ x. refl;
    frees = λ k t e. cc;
    takes = λ held all. refl;
    roots = λ d t. differ t (is.plain.apart d);
  };
}

unwinds_cares : (plan : Plan) (v : Views) (r : ResumeCall) (c : ℤ) (s : Stage) → Owns v r s → Cares plan v s (resume_unwinds plan v r c)
unfolding resume_unwinds
unwinds_cares plan v r c s is = gives_cares plan v r c s (first_held plan v r.dev) is

domain_cares : (plan : Plan) (v : Views) (r : ResumeCall) (c : ℤ) (s : Stage) → Owns v r s → Cares plan v s (resume_domain plan v r c)
unfolding resume_domain
domain_cares plan v r c s is =
    both (has_domain plan r.dev) (quiet (λ _. refl) (λ _. refl) is.plain.idle (λ _. refl) (λ _. refl) (λ _ _. refl) (λ _. refl) is.plain.apart) (unwinds_cares plan v r c s is)

-- R4b: the callback ends well, or with an error
failed_now : (b : Bool) (c : ℤ) → b ≡ true → int_eq c (pos 0) ≡ false → fails (only_if b c) ≡ true
failed_now true c e bad = rw bad refl
failed_now false c e bad = cc

not_clear : (b : Bool) (c : ℤ) → int_eq c (pos 0) ≡ false → is_clear (only_if b c) ≡ false
not_clear true c bad = bad
not_clear false c bad = refl

ends_cares : (plan : Plan) (v : Views) (r : ResumeCall) (since : ℕ) → Cares plan v (stage.Resume (resume.Running r since)) (resume_ends plan v r)
unfolding resume_ends
ends_cares plan v r since = either (int_eq code (pos 0)) well badly
  where
    code : ℤ
    code = callback_code plan v cb.Resume r.dev

    well : int_eq code (pos 0) ≡ true → Cares plan v (stage.Resume (resume.Running r since)) (writes (event.End r.dev cb.Resume code) change.Same (resume_goes (resume.Resumed r)))
    well is = record {
      paid = record {
        begins = λ x same. cc;
        comes = λ x t. cc;
        leaves = λ x t. inr (inr t);
        stays = λ x up has. refl;
        clears = λ x. rw is refl;
        frees = λ k t e. cc;
        takes = λ held all. refl;
        roots = λ d t. cc;
      };
    }

    badly : int_eq code (pos 0) ≡ false → Cares plan v (stage.Resume (resume.Running r since)) (writes (event.End r.dev cb.Resume code) (change.Cancel r.dev) (resume_goes (resume.Domain r code)))
    badly bad = record {
      paid = record {
        begins = λ x same. cc;
        comes = λ x t. cc;
        leaves = λ x t. inr (inl (rw bad (failed_now (is_same x r.dev) code t bad)));
        stays = λ x up has. refl;
        clears = λ x. rw bad (not_clear (is_same x r.dev) code bad);
        frees = λ k t e. cc;
        takes = λ held all. refl;
        roots = λ d t. cc;
      };
    }

-- R4c
active_now : (b : Bool) → b ≡ true → is_on (only_if b status.Active) ≡ true
active_now true e = refl
active_now false e = cc

resumed_cares : (plan : Plan) (v : Views) (r : ResumeCall)
    → Cares plan v (stage.Resume (resume.Resumed r)) (writes (event.State r.dev word.Active) change.Same (resume_goes (resume.Idle r)))
resumed_cares plan v r = record {
  paid = record {
    begins = λ x t. cc;
    comes = λ x t. cc;
    leaves = λ x t. inl (active_now (is_same x r.dev) t);
    stays = λ x up has. on_now (is_same x r.dev);
    clears = λ x. refl;
    frees = λ c t is. cc;
    takes = λ held is. refl;
    roots = λ d t. cc;
  };
}

plain : (s : Stage) → ((x : DevId) → calls_back x s ≡ false) → ((d : DevId) → is_get_of d s ≡ false) → IsPlain s
plain s a b = record { idle = a; apart = b }

own_down : (v : Views) (r : ResumeCall) (s : Stage) → ((x : DevId) → owns_resume x s ≡ one (is_same x r.dev)) → ((x : DevId) → owns_resume x s ≡ 1 → is_active v x ≡ false) → is_active v r.dev ≡ false
own_down v r s is owned = owned r.dev (is r.dev ∙ rw (same_self r.dev.0) refl)

pub resume_cares : (plan : Plan) (v : Views) (t : ℕ) (s : ResumeStage) → ((x : DevId) → owns_resume x (stage.Resume s) ≡ 1 → is_active v x ≡ false)
    → Cares plan v (stage.Resume s) (resume_row plan v s t)
resume_cares plan v t (resume.Enter r) owned = quiet (λ _. refl) (λ _. refl) (λ _. refl) (λ _. refl) (λ _. refl) (λ _ _. refl) (λ _. refl) (λ _. refl)
resume_cares plan v t (resume.Verdict r tried) owned = verdict_cares plan v r tried _ (plain _ (λ _. refl) (λ _. refl))
resume_cares plan v t (resume.Waiting r tried) owned = both (is_moving v r.dev) waiting (verdict_cares plan v r tried (stage.Resume (resume.Waiting r tried)) (plain _ (λ _. refl) (λ _. refl)))
resume_cares plan v t (resume.Links r) owned = links_cares plan v r t _ (record { plain = plain _ (λ _. refl) (λ _. refl); is = λ _. refl })
resume_cares plan v t (resume.Supplied r c) owned =
    both (is_supplied c) (links_cares plan v r t (stage.Resume (resume.Supplied r c)) (record { plain = plain _ (λ _. refl) (λ _. refl); is = λ _. refl }))
    (unwinds_cares plan v r c (stage.Resume (resume.Supplied r c)) (record { plain = plain _ (λ _. refl) (λ _. refl); is = λ _. refl; down = own_down v r (stage.Resume (resume.Supplied r c)) (λ _. refl) owned }))
resume_cares plan v t (resume.Callback r) owned = begins_cares plan v r t _ (record { plain = plain _ (λ _. refl) (λ _. refl); is = λ _. refl })
resume_cares plan v t (resume.Running r since) owned = ends_cares plan v r since
resume_cares plan v t (resume.Resumed r) owned = resumed_cares plan v r
resume_cares plan v t (resume.Idle r) owned = quiet (λ _. refl) (λ _. refl) (λ _. refl) (λ _. refl) (λ _. refl) (λ _ _. refl) (λ _. refl) (λ _. refl)
resume_cares plan v t (resume.Done r c) owned = returns_cares plan v r c _ (stage.Resume (resume.Done r c)) (plain _ (λ _. refl) (λ _. refl))
resume_cares plan v t (resume.Parent r c) owned = quiet (λ _. refl) (λ _. refl) (λ _. refl) (λ _. refl) (λ _. refl) (λ _ _. refl) (λ _. refl) (λ _. refl)
resume_cares plan v t (resume.Domain r c) owned =
    domain_cares plan v r c (stage.Resume (resume.Domain r c)) (record { plain = plain _ (λ _. refl) (λ _. refl); is = λ _. refl; down = own_down v r (stage.Resume (resume.Domain r c)) (λ _. refl) owned })
resume_cares plan v t (resume.Unwind r c) owned =
    unwinds_cares plan v r c (stage.Resume (resume.Unwind r c)) (record { plain = plain _ (λ _. refl) (λ _. refl); is = λ _. refl; down = own_down v r (stage.Resume (resume.Unwind r c)) (λ _. refl) owned })
