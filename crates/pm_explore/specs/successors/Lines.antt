-- Which lines may come next at a pace, and how they are found (this project's own).
use Rattle.std.specs.Prelude.{ℕ, ◌≡◌, ◌<◌, ◌⊎◌, Bool, true, false, not, ◌&&◌, ◌||◌, List, Option, Some, None, length, nat_eq, nat_le, nat_lt, if◌then◌else◌}
use Rattle.std.specs.List.{Contains, filter_map, flat_map}
use Rattle.std.specs.Option.{option_and_then, option_map_or}
use Rattle.pm_base.specs.declared.ActorId.{ActorId}
use Rattle.pm_base.specs.declared.DevId.{DevId}
use Rattle.pm_model.specs.declared.event.Event.{Event}
use Rattle.pm_model.specs.declared.event.Event.TheVariants as event
use Rattle.pm_model.specs.declared.event.Line.{Line}
use Rattle.pm_model.specs.declared.event.Word.TheVariants as word
use Rattle.pm_model.specs.declared.plan.Plan.{Plan}
use Rattle.pm_model.specs.declared.stage.Change.{Change}
use Rattle.pm_model.specs.declared.stage.Change.TheVariants as change
use Rattle.pm_model.specs.declared.stage.Move.{Move}
use Rattle.pm_model.specs.declared.stage.Move.TheVariants as move
use Rattle.pm_model.specs.PlanRows.{marks_busy}
use Rattle.pm_model.specs.Serial.{move_at}
use Rattle.pm_model.specs.Views.{Views, device}
use Rattle.pm_model.specs.World.{stage_at}
use Rattle.pm_explore.specs.declared.schedule.Pace.{Pace}
use Rattle.pm_explore.specs.declared.schedule.Pace.TheVariants.{Late, Eager}
use Rattle.pm_explore.specs.schedule.Snapshots.{IsTimely, MayFollow, Snapshot, all_actors, preempts, due_moment, expiry_at, moments, prompt_time}

-- the line may come next, when the pace lets it, and preempts or doesn't
pub record IsNext (pace : Pace) (plan : Plan) (s : Snapshot) (spends : Bool) (line : Line) : Type 0 where
  pub may : MayFollow plan s line
  pub timely : IsTimely pace plan s line
  pub kind : preempts plan s line ≡ spends

-- at no other moment does the pace let a line come
abbrev pub IsMoment : Pace → Plan → Snapshot → ℕ → Type 0
IsMoment Eager plan s t = prompt_time plan s ≡ Some t
IsMoment Late plan s t = (t ≡ s.time) ⊎ ((s.time < t) × Contains (moments plan s) t)

-- a line that preempts, or one that doesn't
abbrev pub is_kind : Bool → Bool → Bool
is_kind true preempting = preempting
is_kind false preempting = not preempting

-- a line of this kind that comes no earlier than the last one
abbrev pub is_kept : Plan → Snapshot → Bool → Line → Bool
is_kept plan s spends line = nat_le s.time line.time && is_kind spends (preempts plan s line)

-- the device, if its callbacks observation it as busy
abbrev pub marked_by_callback : Plan → DevId → Option DevId
marked_by_callback plan d = if marks_busy plan d then Some d else None

-- the device that a row's change observations as busy
abbrev pub marked_by_change : Plan → Change → Option DevId
marked_by_change plan (change.CallbackMarks d) = marked_by_callback plan d
marked_by_change plan (change.SuspendEnded d c) = marked_by_callback plan d
marked_by_change plan (change.MarkBusy d) = Some d
marked_by_change plan _ = None

-- the device that an event observations as busy: it is active
abbrev pub marked_by_event : Event → Option DevId
marked_by_event (event.State d word.Active) = Some d
marked_by_event _ = None

-- an observation at t is one that the device hasn't
abbrev pub is_new_observation : Views → ℕ → DevId → Bool
is_new_observation v t d = nat_lt d.0 (length v.devices) && not (nat_eq (device v d).last_busy t)

-- a line at t with this event and this change leaves a device with another observation
abbrev pub observations : Plan → Views → ℕ → Event → Change → Bool
observations plan v t e c = option_map_or (is_new_observation v t) (marked_by_change plan c) false || option_map_or (is_new_observation v t) (marked_by_event e) false

abbrev pub is_at : ℕ → Option ℕ → Bool
is_at t moment = option_map_or (nat_eq t) moment false

-- of the lines at the moments of a pace, those that it lets come
abbrev pub comes : Pace → Plan → Snapshot → Line → Change → Bool
comes Eager plan s line c = true
comes Late plan s line c =
    not (nat_lt s.time line.time) || is_at line.time (due_moment plan s line.actor)
    || is_at line.time (option_and_then (expiry_at s.world.views) (stage_at plan s.world line.actor)) || observations plan s.world.views line.time line.event c

abbrev pub kept : Pace → Plan → Snapshot → Bool → Change → Line → Option Line
kept pace plan s spends c line = if is_kept plan s spends line && comes pace plan s line c then Some line else None

-- the line of this kind that a move at t gives
abbrev pub line_of : Pace → Plan → Snapshot → Bool → ℕ → ActorId → Move → Option Line
line_of pace plan s spends t actor (move.Write e c next) = kept pace plan s spends c (record { time = t; actor = actor; event = e })
line_of pace plan s spends t actor (move.Late at) = None
line_of pace plan s spends t actor (move.Wait d) = None

abbrev pub line_for : Pace → Plan → Snapshot → Bool → ℕ → ActorId → Option Line
line_for pace plan s spends t actor = option_and_then (line_of pace plan s spends t actor) (move_at plan s.world t actor)

-- the lines of this kind that may come next at these moments, in the order of their actors and then of the moments
abbrev pub lines_at : Pace → Plan → Snapshot → Bool → List ℕ → List Line
lines_at pace plan s spends times = flat_map (λ actor. filter_map (λ t. line_for pace plan s spends t actor) times) (all_actors plan)
