-- What a row owes while nothing disturbs.
use Rattle.std.proofs.Common.{◌≡◌, ◌⊎◌, Bool, true, false, not, ◌&&◌}
use Rattle.std.specs.Prelude.{◌||◌}
use Rattle.pm_base.specs.declared.DevId.{DevId}
use Rattle.pm_model.specs.declared.event.Event.{Event}
use Rattle.pm_model.specs.declared.event.Event.TheVariants as event
use Rattle.pm_model.specs.declared.plan.Plan.{Plan}
use Rattle.pm_model.specs.declared.stage.Change.{Change}
use Rattle.pm_model.specs.declared.stage.Change.TheVariants as change
use Rattle.pm_model.specs.declared.stage.HelperStage.TheVariants as at
use Rattle.pm_model.specs.declared.stage.Stage.{Stage}
use Rattle.pm_model.specs.declared.stage.Stage.TheVariants as stage
use Rattle.pm_model.specs.declared.stage.Then.{Then}
use Rattle.pm_model.specs.Counted.{is_same}
use Rattle.pm_model.specs.Derived.{is_active_status, is_disabled}
use Rattle.pm_model.specs.Promises.{disturbs, implies}
use Rattle.pm_model.specs.Row.{writes}
use Rattle.pm_model.specs.Views.{Views}
use Rattle.pm_laws.proofs.counts.Links.{neither}
use Rattle.pm_laws.proofs.counts.Rows.{said}
use Rattle.pm_laws.proofs.stacks.Obeying.{Duty, Obeys}
use Rattle.pm_laws.proofs.safe.Steps.{differ}
use Rattle.pm_laws.specs.safe.Pends.{is_up}
use Rattle.pm_laws.proofs.gets.Passing.{tells}
use Rattle.pm_laws.specs.gets.Answered.{is_get_sync}
use Rattle.pm_laws.specs.gets.Undisturbed.{is_bad, ends_badly, needs_up, brings_up, needs_enabled, no_end}

-- a change with which a depth may rise
abbrev pub is_disabling : Change → Bool
is_disabling (change.Disable d) = true
is_disabling (change.DisableBusy d) = true
is_disabling (change.DisableAtOnce d) = true
is_disabling _ = false

abbrev pub is_call : Event → Bool
is_call (event.Call c) = true
is_call _ = false

-- what an empty place of a caller starts with
abbrev pub is_call_stage : Stage → Bool
is_call_stage (stage.Helper (at.Call c)) = true
is_call_stage _ = false

-- a get_sync of x, which was enabled at the call, returns with a bad code
abbrev pub returns_badly : DevId → Bool → Event → Bool
returns_badly x enabled (event.Ret h d c) = not (implies (is_get_sync h && is_same x d && enabled) (is_up c))
returns_badly x enabled _ = false

-- a call line, or such a return
abbrev pub is_told : DevId → Bool → Event → Bool
is_told x enabled e = is_call e || returns_badly x enabled e

-- its next stages are good; what they need Active was needed so, or is Active by the event; what they need enabled was
-- needed so, or is; no depth rises; a call line stands at an empty place; and what returns badly was bad
pub record Calm (plan : Plan) (x : DevId) (enabled : Bool) (v : Views) (s : Stage) (e : Event) (change : Change) (next : Then) : Type 0 where
  pub good : tells (is_bad plan x enabled) (ends_badly x enabled) s next ≡ false
  pub up : (d : DevId) → tells (needs_up plan d) (brings_up d) s next ≡ true → (needs_up plan d s ≡ true) ⊎ (is_active_status (said e v d) ≡ true)
  pub ready : (d : DevId) → tells (needs_enabled d) no_end s next ≡ true → (needs_enabled d s ≡ true) ⊎ (is_disabled v d ≡ false)
  pub stays : is_disabling change ≡ false
  pub called : is_call e ≡ true → is_call_stage s ≡ true
  pub well : returns_badly x enabled e ≡ true → is_bad plan x enabled s ≡ true

abbrev pub Calmly : Plan → DevId → Bool → Views → Stage → Duty
Calmly plan x enabled v s e change next = disturbs e ≡ false → Calm plan x enabled v s e change next

pub calm : {plan : Plan} {x : DevId} {enabled : Bool} {v : Views} {s : Stage} {e : Event} {change : Change} {next : Then}
    → tells (is_bad plan x enabled) (ends_badly x enabled) s next ≡ false
    → ((d : DevId) → tells (needs_up plan d) (brings_up d) s next ≡ true → (needs_up plan d s ≡ true) ⊎ (is_active_status (said e v d) ≡ true))
    → ((d : DevId) → tells (needs_enabled d) no_end s next ≡ true → (needs_enabled d s ≡ true) ⊎ (is_disabled v d ≡ false))
    → is_disabling change ≡ false → is_told x enabled e ≡ false → Obeys (Calmly plan x enabled v s) (writes e change next)
calm {x = x} {enabled = enabled} {e = e} good up ready stays silent =
    let n = neither (is_call e) (returns_badly x enabled e) silent in
    record { paid = λ _. record { good = good; up = up; ready = ready; stays = stays; called = λ c. differ c n.0; well = λ b. differ b n.1 } }

-- nothing is needed
pub quiet : {plan : Plan} {x : DevId} {enabled : Bool} {v : Views} {s : Stage} {e : Event} {change : Change} {next : Then}
    → tells (is_bad plan x enabled) (ends_badly x enabled) s next ≡ false → ((d : DevId) → tells (needs_up plan d) (brings_up d) s next ≡ false)
    → ((d : DevId) → tells (needs_enabled d) no_end s next ≡ false) → is_disabling change ≡ false → is_told x enabled e ≡ false
    → Obeys (Calmly plan x enabled v s) (writes e change next)
quiet good up ready stays called = calm good (λ d t. differ t (up d)) (λ d t. differ t (ready d)) stays called

-- the line disturbs
pub loud : {plan : Plan} {x : DevId} {enabled : Bool} {v : Views} {s : Stage} {e : Event} {change : Change} {next : Then} → disturbs e ≡ true
    → Obeys (Calmly plan x enabled v s) (writes e change next)
loud is = record { paid = λ calm. differ is calm }
