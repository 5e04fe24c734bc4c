-- The lines of a run on one thread, one by one (this project's own).
use Rattle.std.specs.Prelude.{◌≡◌, ◌<◌, ℕ, [], Option, Some, length, reverse, slice_get, take}
use Rattle.pm_base.specs.declared.ActorId.{ActorId}
use Rattle.pm_base.specs.declared.DevId.{DevId}
use Rattle.pm_book.specs.Turn.{HasTime}
use Rattle.pm_laws.specs.turns.Looks.{device_at}
use Rattle.pm_model.specs.declared.event.Event.{Event}
use Rattle.pm_model.specs.declared.plan.Plan.{Plan}
use Rattle.pm_model.specs.declared.stage.Change.{Change}
use Rattle.pm_model.specs.declared.stage.Move.{Move}
use Rattle.pm_model.specs.declared.stage.Move.TheVariants.{Write}
use Rattle.pm_model.specs.declared.stage.Stage.{Stage}
use Rattle.pm_model.specs.declared.stage.Then.{Then}
use Rattle.pm_model.specs.History.{History}
use Rattle.pm_model.specs.Lawful.{IsLawful}
use Rattle.pm_model.specs.Serial.{next_turn, serial}
use Rattle.pm_model.specs.World.{World, move, stage_at, world}
use Rattle.pm_serial.specs.declared.turn.NextTurn.{NextTurn}
use Rattle.pm_serial.specs.Ends.{whole}
use Rattle.pm_state.specs.Seats.{actor_in, seats}
use Rattle.pm_state.specs.Standing.{IsOf, Standing}
use Rattle.pm_turns.specs.Turning.{Index, IsIndex}

-- a plan, and how many lines have come of the run that one thread makes of it
pub record Coming : Type 0 where
  pub plan : Plan
  pub came : ℕ

-- the state and the turns are those after so many lines of that run
pub record IsAfter (plan : Plan) (came : ℕ) (state : Standing) (turns : Index) : Type 0 where
  pub list : History
  pub lawful : IsLawful plan list
  pub many : length list ≡ came
  pub on_the_way : whole plan list ≡ whole plan []
  pub in_time : HasTime plan list
  pub world_is : state.world ≡ world plan list
  pub is_of : IsOf plan state
  pub turns_are : IsIndex plan list turns

-- the actor stands at a stage of this device, if it has one, where it may make this move
pub record Moves (plan : Plan) (w : World) (actor : ActorId) (time : ℕ) (m : Move) (at : Option DevId) : Type 0 where
  pub stage : Stage
  pub stands : stage_at plan w actor ≡ Some stage
  pub gives : Some m ≡ move plan w.views stage time
  pub at_is : at ≡ device_at stage

-- the first lines of the run that one thread makes, the newest first
unfoldable pub so_far : Plan → ℕ → History
so_far plan came = reverse (take came (serial plan))

-- behind these lines it is the turn of who sits at this seat, by this move, and the line that it writes is the next one
pub record IsComing (plan : Plan) (came : ℕ) (turn : NextTurn) (next : Move) : Type 0 where
  pub turn_is : next_turn plan (so_far plan came) ≡ Some (actor_in plan turn.seat, turn.time)
  pub in_range : turn.seat < seats plan
  pub stage : Stage
  pub stands : stage_at plan (world plan (so_far plan came)) (actor_in plan turn.seat) ≡ Some stage
  pub gives : Some next ≡ move plan (world plan (so_far plan came)).views stage turn.time
  pub at_is : turn.at ≡ device_at stage
  pub room : came < plan.lines
  pub event : Event
  pub change : Change
  pub what_follows : Then
  pub writes : next ≡ Write event change what_follows
  pub line_is : slice_get (serial plan) came ≡ Some (record { time = turn.time; actor = actor_in plan turn.seat; event = event })
