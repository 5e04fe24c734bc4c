-- What a row of the call table owes at the one stage that it replaces.
use Rattle.std.proofs.Common.{ℕ, ◌≡◌, ◌+◌, ◌<◌, Bool, true, false, ◌||◌, length, nat_eq, if◌then◌else◌, refl}
use Rattle.std.specs.Option.{unwrap_or}
use Rattle.pm_base.specs.declared.DevId.{DevId}
use Rattle.pm_base.specs.declared.Status.{Status}
use Rattle.pm_model.specs.declared.event.Event.{Event}
use Rattle.pm_model.specs.declared.plan.Plan.{Plan}
use Rattle.pm_model.specs.declared.stage.Change.{Change}
use Rattle.pm_model.specs.declared.stage.Stage.{Stage}
use Rattle.pm_model.specs.declared.stage.Then.{Then}
use Rattle.pm_model.specs.ChangeViews.{change_views}
use Rattle.pm_model.specs.Counted.{says_status, says_on, takes, gives_back, frees, is_callers}
use Rattle.pm_model.specs.Derived.{is_suspending_status, is_resuming_status, is_suspending, is_resuming, is_moving}
use Rattle.pm_model.specs.Events.{by_event}
use Rattle.pm_model.specs.PlanRows.{no_callbacks}
use Rattle.pm_model.specs.Row.{Row, writes, waits}
use Rattle.pm_model.specs.Views.{Views, device}
use Rattle.pm_laws.specs.counts.Sums.{one, weigh}
use Rattle.pm_laws.specs.counts.Owners.{owns_suspend, owns_resume}
use Rattle.pm_laws.specs.counts.Counts.{holds, owed}
use Rattle.pm_laws.specs.counts.Sizes.{HasEntries}
use Rattle.pm_laws.proofs.counts.Places.{shown}

-- Suspending or Resuming
abbrev pub is_moving_status : Status → Bool
is_moving_status s = is_suspending_status s || is_resuming_status s

-- the status of d after an event
abbrev pub said : Event → Views → DevId → Status
said e v d = unwrap_or (says_status d e) (device v d).status

-- the stages that take the place of a stage own what it owned, and hold what it held
abbrev pub SameOwners : Stage → Then → Type 0
SameOwners s next = (d : DevId) → (weigh (owns_suspend d) (shown next) ≡ owns_suspend d s) × (weigh (owns_resume d) (shown next) ≡ owns_resume d s)

abbrev pub SameHolds : Plan → Stage → Then → Type 0
SameHolds plan s next = (d : DevId) → weigh (holds plan d) (shown next) ≡ holds plan d s

-- what is known of the views before a line
pub record Known (plan : Plan) (v : Views) : Type 0 where
  pub entries : HasEntries plan v
  pub settled : (d : DevId) → no_callbacks plan d ≡ true → is_moving v d ≡ false

-- the owners: where the stage is one of those that add up to the status before, those that take its place are one of
-- those that add up to the status after
pub record Owning (plan : Plan) (v : Views) (s : Stage) (e : Event) (next : Then) : Type 0 where
  pub one_each : (d : DevId) (x y : ℕ) → one (is_suspending v d) ≡ owns_suspend d s + x → one (is_resuming v d) ≡ owns_resume d s + y
      → (one (is_suspending_status (said e v d)) ≡ weigh (owns_suspend d) (shown next) + x) × (one (is_resuming_status (said e v d)) ≡ weigh (owns_resume d) (shown next) + y)
  pub settles : (d : DevId) → no_callbacks plan d ≡ true → is_moving v d ≡ false → is_moving_status (said e v d) ≡ false

-- the counts: where the stage is one of those that hold what the views don't tell of, the stages that take its place are
-- one of those after the line; and the usage rises and falls by the gets, the puts and what is freed
pub record Counting (plan : Plan) (v after : Views) (s : Stage) (e : Event) (next : Then) : Type 0 where
  pub adds : (d : DevId) (x : ℕ) → d.0 < length plan.devices → (device v d).usage ≡ owed plan v d + (holds plan d s + x)
      → (device after d).usage ≡ owed plan after d + (weigh (holds plan d) (shown next) + x)
  pub moves : (d : DevId) (x : ℕ) → d.0 < length plan.devices → (device v d).usage ≡ owed plan v d + (holds plan d s + x)
      → (device after d).usage + (one (gives_back (λ w. true) d e) + frees plan v d e) ≡ (device v d).usage + one (takes (λ w. true) d e)

-- what a row that writes an event owes. A caller's put finds a share, and a pm_domain line switches the domains that it
-- would switch before the change that its row names
pub record Keeps (plan : Plan) (v : Views) (t : ℕ) (s : Stage) (e : Event) (c : Change) (next : Then) : Type 0 where
  pub owning : Owning plan v s e next
  pub counting : Counting plan v (by_event plan t e (change_views plan t c v)) s e next
  pub spends : (d : DevId) → gives_back is_callers d e ≡ true → nat_eq (device v d).share 0 ≡ false
  pub switching : (o : ℕ) → says_on plan (change_views plan t c v) o e ≡ says_on plan v o e

abbrev pub KeepsRow : Plan → Views → ℕ → Stage → Row → Type 0
KeepsRow plan v t s (writes e c next) = Keeps plan v t s e c next
KeepsRow plan v t s (waits d) = Unit {0}

-- what a row owes
pub record Owes (plan : Plan) (v : Views) (t : ℕ) (s : Stage) (row : Row) : Type 0 where
  pub paid : KeepsRow plan v t s row

-- a row where its test holds, and those after it where it doesn't
pub either : {plan : Plan} {v : Views} {t : ℕ} {s : Stage} {x y : Row} (b : Bool) → (b ≡ true → Owes plan v t s x) → (b ≡ false → Owes plan v t s y)
    → Owes plan v t s (if b then x else y)
either {plan} {v} {t} {s} {x} {y} b f g = go b f g
  where
    go : (b : Bool) → (b ≡ true → Owes plan v t s x) → (b ≡ false → Owes plan v t s y) → Owes plan v t s (if b then x else y)
    go true f g = f refl
    go false f g = g refl

-- what holds of either of two that may take the place holds of the one that does
pub either_next : (P : Then → Type 0) (b : Bool) (x y : Then) → P x → P y → P (if b then x else y)
either_next P true x y p q = p
either_next P false x y p q = q

-- at a stage that weighs as much the row owes the same
pub alike : {plan : Plan} {v : Views} {t : ℕ} {s : Stage} {row : Row} (s' : Stage)
    → ((d : DevId) → (owns_suspend d s ≡ owns_suspend d s') × (owns_resume d s ≡ owns_resume d s')) → ((d : DevId) → holds plan d s ≡ holds plan d s')
    → Owes plan v t s' row → Owes plan v t s row
alike {plan} {v} {t} {s} {row} s' a h o = let it : KeepsRow plan v t s row = go row o.paid in record { paid = it }
  where
    go : (row : Row) → KeepsRow plan v t s' row → KeepsRow plan v t s row
    go (waits d) k = tt
    go (writes e c next) k = record {
      spends = k.spends;
      switching = k.switching;
      owning = record { one_each = λ d. rw ((a d).0, (a d).1) (k.owning.one_each d); settles = k.owning.settles };
      counting = record { adds = λ d x. rw (h d) (k.counting.adds d x); moves = λ d x. rw (h d) (k.counting.moves d x) };
    }

pub waiting : {plan : Plan} {v : Views} {t : ℕ} {s : Stage} {d : DevId} → Owes plan v t s (waits d)
waiting = record { paid = tt }
