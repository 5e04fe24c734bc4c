-- The owners where no status turns, and where one does.
use Rattle.std.proofs.Common.{ℕ, ◌≡◌, ◌+◌, ◌≤◌, Bool, true, false, None, ap, refl, sym, ◌∙◌, arith, subst}
use Rattle.std.specs.Option.{unwrap_or}
use Rattle.std.proofs.lemmas.Bool.{eqb-true, false≢true}
use Rattle.pm_base.specs.declared.Cb.TheVariants as cb
use Rattle.pm_base.specs.declared.DevId.{DevId}
use Rattle.pm_base.specs.declared.Status.{Status}
use Rattle.pm_base.specs.declared.Status.TheVariants as status
use Rattle.pm_model.specs.declared.event.Event.{Event}
use Rattle.pm_model.specs.declared.event.Event.TheVariants as event
use Rattle.pm_model.specs.declared.plan.Plan.{Plan}
use Rattle.pm_model.specs.declared.stage.Stage.{Stage}
use Rattle.pm_model.specs.declared.stage.Then.{Then}
use Rattle.pm_model.specs.Counted.{is_same, only_if, says_status}
use Rattle.pm_model.specs.Derived.{is_suspending_status, is_resuming_status, is_moving}
use Rattle.pm_model.specs.PlanRows.{no_callbacks}
use Rattle.pm_model.specs.Views.{Views, device}
use Rattle.pm_laws.specs.counts.Sums.{one, weigh}
use Rattle.pm_laws.specs.counts.Owners.{owns_suspend, owns_resume}
use Rattle.pm_laws.proofs.counts.Turns.{IsQuiet}
use Rattle.pm_laws.proofs.counts.Places.{shown}
use Rattle.pm_laws.proofs.counts.Rows.{Owning, SameOwners, is_moving_status}

-- an event that says nothing of a status
pub quiet_says : (e : Event) → IsQuiet e → (d : DevId) → says_status d e ≡ None
quiet_says (event.Get x w) q d = elim q [ ]
quiet_says (event.Put x w) q d = elim q [ ]
quiet_says (event.State x w) q d = elim q [ ]
quiet_says (event.Begin x cb.Suspend) q d = elim q [ ]
quiet_says (event.End x cb.Suspend c) q d = elim q [ ]
quiet_says _ q d = refl

-- no status changes, and the stages that take the place own what the stage owned
pub unturned : {plan : Plan} {v : Views} {s : Stage} {e : Event} {next : Then} → ((d : DevId) → says_status d e ≡ None) → SameOwners s next
    → Owning plan v s e next
unturned {v} {e} silent a = record {
  one_each = λ d x y p q. rw (silent d, (a d).0, (a d).1) (p, q);
  settles = λ d n m. rw (silent d) m;
}

-- a status turns
unmoving : (x : Status) → is_moving_status x ≡ false → (one (is_suspending_status x) ≡ 0) × (one (is_resuming_status x) ≡ 0)
unmoving status.Active e = (refl, refl)
unmoving status.Suspended e = (refl, refl)
unmoving status.Suspending e = absurd (false≢true (sym e))
unmoving status.Resuming e = absurd (false≢true (sym e))

apart : (x : Status) → one (is_suspending_status x) + one (is_resuming_status x) ≤ 1
apart status.Active = omega arith
apart status.Suspended = omega arith
apart status.Suspending = omega arith
apart status.Resuming = omega arith

abbrev pub Turned : Bool → Status → Status → ℕ → ℕ → ℕ → ℕ → Type 0
Turned b old new a a' r r' = (x y : ℕ) → one (is_suspending_status old) ≡ a + x → one (is_resuming_status old) ≡ r + y → (one (is_suspending_status (unwrap_or (only_if b new) old)) ≡ a' + x) × (one (is_resuming_status (unwrap_or (only_if b new) old)) ≡ r' + y)

settled : (b : Bool) (old new : Status) → (b ≡ true → is_moving_status old ≡ false) → is_moving_status new ≡ false → Turned b old new 0 0 0 0
settled true old new m n x y p q = let o = unmoving old (m refl) in let k = unmoving new n in (omega arith, omega arith)
settled false old new m n x y p q = (p, q)

suspend_begun : (b : Bool) (old : Status) → (b ≡ true → is_moving_status old ≡ false) → Turned b old status.Suspending 0 (one b) 0 0
suspend_begun true old m x y p q = let o = unmoving old (m refl) in (omega arith, omega arith)
suspend_begun false old m x y p q = (p, q)

resume_begun : (b : Bool) (old : Status) → (b ≡ true → is_moving_status old ≡ false) → Turned b old status.Resuming 0 0 0 (one b)
resume_begun true old m x y p q = let o = unmoving old (m refl) in (omega arith, omega arith)
resume_begun false old m x y p q = (p, q)

suspend_ended : (b : Bool) (old new : Status) → is_moving_status new ≡ false → Turned b old new (one b) 0 0 0
suspend_ended true old new n x y p q = let o = apart old in let k = unmoving new n in (omega arith, omega arith)
suspend_ended false old new n x y p q = (p, q)

resume_ended : (b : Bool) (old new : Status) → is_moving_status new ≡ false → Turned b old new 0 0 (one b) 0
resume_ended true old new n x y p q = let o = apart old in let k = unmoving new n in (omega arith, omega arith)
resume_ended false old new n x y p q = (p, q)

still_after : (b : Bool) (old new : Status) → is_moving_status old ≡ false → (b ≡ true → is_moving_status new ≡ false)
    → is_moving_status (unwrap_or (only_if b new) old) ≡ false
still_after true old new m n = n refl
still_after false old new m n = m

-- the same device
pub same_is : (d e : DevId) → is_same d e ≡ true → e ≡ d
same_is d e b = ap (λ n. let x : DevId = record { 0 = n } in x) (eqb-true e.0 d.0 b)

pub still_at : (v : Views) (d e : DevId) → is_moving v e ≡ false → is_same d e ≡ true → is_moving v d ≡ false
still_at v d e m b = subst (λ x. is_moving v x ≡ false) (same_is d e b) m

calls_back : {A : Type 0} (plan : Plan) (d e : DevId) → no_callbacks plan e ≡ false → no_callbacks plan d ≡ true → is_same d e ≡ true → A
calls_back plan d e has n b = absurd (false≢true (sym has ∙ ap (no_callbacks plan) (same_is d e b) ∙ n))

-- what a stage owns, and what the stages that take its place own: of suspends, and of resumes
abbrev pub Owns : Stage → (DevId → ℕ) → (DevId → ℕ) → Type 0
Owns s suspends resumes = (d : DevId) → (owns_suspend d s ≡ suspends d) × (owns_resume d s ≡ resumes d)

abbrev pub OwnsNext : Then → (DevId → ℕ) → (DevId → ℕ) → Type 0
OwnsNext next suspends resumes = (d : DevId) → (weigh (owns_suspend d) (shown next) ≡ suspends d) × (weigh (owns_resume d) (shown next) ≡ resumes d)

-- nothing, and that of one device
abbrev pub none : DevId → ℕ
none d = 0

abbrev pub only : DevId → DevId → ℕ
only e d = one (is_same d e)

-- an event turns the status of a device
abbrev pub Turns : Event → DevId → Status → Type 0
Turns ev e new = (d : DevId) → says_status d ev ≡ only_if (is_same d e) new

-- a device that stood still stands still in its new status
pub stays_still : {plan : Plan} {v : Views} {s : Stage} {ev : Event} {next : Then} (e : DevId) (new : Status) → is_moving v e ≡ false
    → is_moving_status new ≡ false → Turns ev e new → Owns s none none → OwnsNext next none none → Owning plan v s ev next
stays_still {v} e new m n says a b = record {
  one_each = λ d. rw (says d, (a d).0, (a d).1, (b d).0, (b d).1) (settled (is_same d e) (device v d).status new (still_at v d e m) n);
  settles = λ d _ o. rw (says d) (still_after (is_same d e) (device v d).status new o (λ _. n));
}

-- a suspend begins
pub begins_suspend : {plan : Plan} {v : Views} {s : Stage} {ev : Event} {next : Then} (e : DevId) → is_moving v e ≡ false
    → no_callbacks plan e ≡ false → Turns ev e status.Suspending → Owns s none none → OwnsNext next (only e) none → Owning plan v s ev next
begins_suspend {plan} {v} e m has says a b = record {
  one_each = λ d. rw (says d, (a d).0, (a d).1, (b d).0, (b d).1) (suspend_begun (is_same d e) (device v d).status (still_at v d e m));
  settles = λ d n o. rw (says d) (still_after (is_same d e) (device v d).status status.Suspending o (calls_back plan d e has n));
}

-- a resume begins
pub begins_resume : {plan : Plan} {v : Views} {s : Stage} {ev : Event} {next : Then} (e : DevId) → is_moving v e ≡ false → no_callbacks plan e ≡ false
    → Turns ev e status.Resuming → Owns s none none → OwnsNext next none (only e) → Owning plan v s ev next
begins_resume {plan} {v} e m has says a b = record {
  one_each = λ d. rw (says d, (a d).0, (a d).1, (b d).0, (b d).1) (resume_begun (is_same d e) (device v d).status (still_at v d e m));
  settles = λ d n o. rw (says d) (still_after (is_same d e) (device v d).status status.Resuming o (calls_back plan d e has n));
}

-- a suspend ends, at its owner
pub ends_suspend : {plan : Plan} {v : Views} {s : Stage} {ev : Event} {next : Then} (e : DevId) (new : Status) → is_moving_status new ≡ false
    → Turns ev e new → Owns s (only e) none → OwnsNext next none none → Owning plan v s ev next
ends_suspend {v} e new n says a b = record {
  one_each = λ d. rw (says d, (a d).0, (a d).1, (b d).0, (b d).1) (suspend_ended (is_same d e) (device v d).status new n);
  settles = λ d _ o. rw (says d) (still_after (is_same d e) (device v d).status new o (λ _. n));
}

-- a resume ends, at its owner
pub ends_resume : {plan : Plan} {v : Views} {s : Stage} {ev : Event} {next : Then} (e : DevId) (new : Status) → is_moving_status new ≡ false
    → Turns ev e new → Owns s none (only e) → OwnsNext next none none → Owning plan v s ev next
ends_resume {v} e new n says a b = record {
  one_each = λ d. rw (says d, (a d).0, (a d).1, (b d).0, (b d).1) (resume_ended (is_same d e) (device v d).status new n);
  settles = λ d _ o. rw (says d) (still_after (is_same d e) (device v d).status new o (λ _. n));
}
