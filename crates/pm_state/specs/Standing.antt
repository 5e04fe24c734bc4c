-- Where a run of a plan stands, and what one line makes of it (this project's own).
use Rattle.std.specs.Prelude.{ℕ, ◌≡◌, ◌+◌, ◌<◌, ◌≤◌, ◌&&◌, Bool, true, false, drop, length}
use Rattle.std.specs.Option.{option_map_or}
use Rattle.pm_base.specs.declared.ActorId.{ActorId}
use Rattle.pm_base.specs.declared.ActorId.TheVariants.{Caller, Work, Timer}
use Rattle.pm_base.specs.declared.DevId.{DevId}
use Rattle.pm_model.specs.declared.event.Event.{Event}
use Rattle.pm_model.specs.declared.event.Event.TheVariants as event
use Rattle.pm_model.specs.declared.event.Line.{Line}
use Rattle.pm_model.specs.declared.plan.Plan.{Plan}
use Rattle.pm_model.specs.declared.stage.Change.{Change}
use Rattle.pm_model.specs.declared.stage.Stage.{Stage}
use Rattle.pm_model.specs.declared.stage.Stage.TheVariants as stage
use Rattle.pm_model.specs.declared.stage.Then.{Then}
use Rattle.pm_model.specs.CanTake.{can_take, has_room}
use Rattle.pm_model.specs.ChangeViews.{change_views}
use Rattle.pm_model.specs.Events.{by_event}
use Rattle.pm_model.specs.Handing.{after_then}
use Rattle.pm_model.specs.Views.{Views}
use Rattle.pm_model.specs.WellFormed.{is_well_formed}
use Rattle.pm_model.specs.World.{World, called_by, counts_call, place, stage_at, with_place}
use Rattle.pm_device.specs.Filling.{CanBe}
use Rattle.pm_device.specs.Parts.{Counters, IsFor, Shape}
use Rattle.pm_laws.specs.stacks.Depth.{longest_chain}
use Rattle.pm_state.specs.Places.{HasRoom}

-- what the counters were made for, where the run stands, and for how many open stages each actor's place has room
pub record Standing : Type 0 where
  pub shape : Shape
  pub world : World
  pub room : ℕ

-- the counters of a standing
abbrev pub counters : Standing → Counters
counters s = record { shape = s.shape; views = s.world.views }

-- the actor is one of the plan's
abbrev pub IsActor : Plan → ActorId → Type 0
IsActor plan (Caller c) = c < length plan.callers
IsActor plan (Work d) = d < length plan.devices
IsActor plan (Timer d) = d < length plan.devices

-- so many stages are enough for each actor's place: 3 more than devices stand on any chain of parents and suppliers
pub record IsRoomy (plan : Plan) (room : ℕ) : Type 0 where
  pub each : (d : DevId) → longest_chain plan d + 3 ≤ room

-- it was made for this plan, whatever its scripts: it has the counters, a place with room enough for each actor and a
-- number of calls for each caller
pub record IsOf (plan : Plan) (s : Standing) : Type 0 where
  pub made_for : IsFor plan s.shape
  pub callers : length s.world.caller_places ≡ length plan.callers
  pub works : length s.world.work_places ≡ length plan.devices
  pub timers : length s.world.timer_places ≡ length plan.devices
  pub called : length s.world.called ≡ length plan.callers
  pub roomy : IsRoomy plan s.room

-- a state that stands here can stand there: its views can, there are as many places and numbers of calls, and there is
-- room for the open stages
pub record CanStand (s : Standing) (w : World) : Type 0 where
  pub views : CanBe s.world.views w.views
  pub callers : length w.caller_places ≡ length s.world.caller_places
  pub works : length w.work_places ≡ length s.world.work_places
  pub timers : length w.timer_places ≡ length s.world.timer_places
  pub called : length w.called ≡ length s.world.called
  pub caller_room : HasRoom s.room w.caller_places
  pub work_room : HasRoom s.room w.work_places
  pub timer_room : HasRoom s.room w.timer_places

-- a stage that awaits no call
abbrev pub is_awake : Stage → Bool
is_awake (stage.Await a) = false
is_awake _ = true

-- an actor may go on at a stage: it is well formed, and awaits no call
abbrev pub can_go_on : Plan → Views → Stage → Bool
can_go_on plan v s = is_well_formed plan v s && is_awake s

-- the actor may go on where it stands, if it stands at a stage
abbrev pub StandsWell : Plan → World → ActorId → Type 0
StandsWell plan w actor = option_map_or (can_go_on plan w.views) (stage_at plan w actor) true ≡ true

-- so may every actor
abbrev pub AllStandWell : Plan → World → Type 0
AllStandWell plan w = (actor : ActorId) → StandsWell plan w actor

-- one more call of a caller can be counted
abbrev pub can_count : World → ActorId → Event → Bool
can_count w (Caller c) (event.Call command) = has_room (called_by w c)
can_count w _ _ = true

-- the state can take a line of this actor with this event, whose row names this change: the counters can, and one more
-- call can be counted
pub record Takes (plan : Plan) (w : World) (actor : ActorId) (c : Change) (e : Event) : Type 0 where
  pub counters : can_take plan w.views c e ≡ true
  pub calls : can_count w actor e ≡ true

-- where the run stands once a line is written whose row names this change, and this takes its stage's place
abbrev pub after_write : Plan → World → Change → Line → Then → World
after_write plan w c line next =
    with_place (record w {
      views = by_event plan line.time line.event (change_views plan line.time c w.views);
      called = counts_call line.actor line.event w.called;
    }) line.actor (after_then next (drop 1 (place w line.actor)))

-- the actor's place has room for what this makes of its stages
abbrev pub HasRoomFor : Standing → ActorId → Then → Type 0
HasRoomFor s actor next = length (after_then next (drop 1 (place s.world actor))) ≤ s.room
