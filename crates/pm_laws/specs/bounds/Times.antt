-- How the permitted event of a stage depends on the time (this project's own).
use Rattle.std.specs.Prelude.{ℕ, ◌≡◌, ◌≤◌, ◌-◌, ◌⊎◌, Bool, true, false, not, ◌&&◌, List, [], ◌∷◌, Option, Some, None, max, nat_abs, nat_eq, nat_le, pos, unwrap_or, if◌then◌else◌}
use Rattle.std.specs.Option.{option_and_then, option_map_or}
use Rattle.std.specs.List.{list_any}
use Rattle.std.specs.Ordering.{int_eq}
use Rattle.pm_model.specs.declared.event.Command.{Command}
use Rattle.pm_model.specs.declared.event.Event.{Event}
use Rattle.pm_model.specs.declared.event.Event.TheVariants as event
use Rattle.pm_model.specs.declared.event.Helper.{Helper}
use Rattle.pm_model.specs.declared.event.Helper.TheVariants as helper
use Rattle.pm_model.specs.declared.event.Line.{Line}
use Rattle.pm_model.specs.declared.event.TimerAct.TheVariants.{Arm}
use Rattle.pm_model.specs.declared.plan.Plan.{Plan}
use Rattle.pm_model.specs.declared.stage.ControlStage.TheVariants as control
use Rattle.pm_model.specs.declared.stage.Stage.{Stage}
use Rattle.pm_model.specs.declared.stage.Stage.TheVariants as stage
use Rattle.pm_model.specs.declared.stage.SuspendStage.TheVariants as suspend
use Rattle.pm_model.specs.Derived.{expiry, refusal}
use Rattle.pm_model.specs.Lawful.{Permits, last_time}
use Rattle.pm_model.specs.NoWhy.{at_time}
use Rattle.pm_model.specs.Row.{Row, writes, waits}
use Rattle.pm_model.specs.Views.{Views}
use Rattle.pm_model.specs.World.{due, row, stage_at, world}

-- the event that a row writes
abbrev pub event_of : Row → Option Event
event_of (writes e change next) = Some e
event_of (waits d) = None

-- the event of the row at a stage on these views at t, whether or not it is due
abbrev pub event_at : Plan → Views → Stage → ℕ → Option Event
event_at plan v s t = option_and_then event_of (row plan v s t)

abbrev pub is_schedule : Helper → Bool
is_schedule helper.ScheduleSuspend = true
is_schedule _ = false

-- the stage at which the tests of suspend are made, or the first of schedule_suspend
abbrev pub minds_time : Stage → Bool
minds_time (stage.Suspend (suspend.Verdict d f)) = true
minds_time (stage.Suspend (suspend.Waiting d f)) = true
minds_time (stage.Control (control.Start c)) = is_schedule c.helper
minds_time _ = false

-- the expiry that the tests of suspend compare with the time
abbrev pub expiry_of : Views → Stage → Option ℕ
expiry_of v (stage.Suspend (suspend.Verdict d f)) = expiry v d
expiry_of v (stage.Suspend (suspend.Waiting d f)) = expiry v d
expiry_of v _ = None

-- schedule_suspend arms a timer
abbrev pub arms : Plan → Views → Command → Bool
arms plan v c = is_schedule c.helper && (not (nat_eq (nat_abs c.number) 0) && int_eq (refusal plan v c.dev) (pos 0))

-- for how long a plain timer is armed at a stage, if it is
abbrev pub arms_for : Plan → Views → Stage → Option ℕ
arms_for plan v (stage.Control (control.Start c)) = if arms plan v c then Some (nat_abs c.number) else None
arms_for plan v _ = None

-- when the event, if it arms a plain timer for so long, was written; else m
abbrev pub armed_at : ℕ → Option ℕ → Event → ℕ
armed_at m (Some ms) (event.Timer d (Arm at autosuspends)) = at - ms
armed_at m _ e = m

-- the moments at which the line of a stage has to be tried, after lines of which the last has this time
abbrev pub moments_at : Plan → Views → ℕ → Event → Stage → List ℕ
moments_at plan v last e s =
    let m = max last (due plan v s) in
    m ∷ max m (unwrap_or (expiry_of v s) 0) ∷ armed_at m (arms_for plan v s) e ∷ []

abbrev pub moments : Plan → List Line → Line → List ℕ
moments plan h line =
    let w = world plan h in
    option_map_or (moments_at plan w.views (last_time h) line.event) (stage_at plan w line.actor) []

-- one of these moments, no later than t, at which the line may come next
abbrev pub IsPermittedAt : Plan → List Line → Line → ℕ → List ℕ → Type 0
IsPermittedAt plan h line t [] = ⊥
IsPermittedAt plan h line t (u ∷ rest) = ((u ≤ t) × Permits plan h (at_time line u)) ⊎ IsPermittedAt plan h line t rest

-- a test of whether two events are the same
pub record IsSame (same : Event → Event → Bool) : Type 0 where
  pub itself : (e : Event) → same e e ≡ true
  pub alike : (e e' : Event) → same e e' ≡ true → e ≡ e'

-- by such a test, the line of a stage may be written at u
abbrev pub is_permitted_at : (Event → Event → Bool) → Plan → Views → ℕ → Event → Stage → ℕ → Bool
is_permitted_at same plan v last e s u = nat_le last u && (nat_le (due plan v s) u && option_map_or (same e) (event_at plan v s u) false)

-- the line may come next at one of its moments
abbrev pub permitted_some_time : (Event → Event → Bool) → Plan → List Line → Line → Bool
permitted_some_time same plan h line =
    let w = world plan h in
    option_map_or
    (λ s. list_any (is_permitted_at same plan w.views (last_time h) line.event s) (moments_at plan w.views (last_time h) line.event s))
    (stage_at plan w line.actor) false
