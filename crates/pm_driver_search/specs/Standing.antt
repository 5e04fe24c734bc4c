-- Where a state stands that goes on from a snapshot of a driver (this project's own).
use Rattle.std.specs.Prelude.{ℕ, ◌<◌, ◌≤◌, ◌^◌, ℤ, Bool, List, Some, is_some, pos, length, if◌then◌else◌}
use Rattle.pm_model.specs.declared.stage.Then.{Then}
use Rattle.pm_laws.specs.counts.Sizes.{HasEntries}
use Rattle.pm_model.specs.declared.event.Event.{Event}
use Rattle.pm_model.specs.declared.event.Event.TheVariants as event
use Rattle.pm_model.specs.declared.event.Line.{Line}
use Rattle.pm_model.specs.declared.plan.Plan.{Plan}
use Rattle.pm_model.specs.World.{World}
use Rattle.pm_explore.specs.declared.schedule.Pace.{Pace}
use Rattle.pm_explore.specs.schedule.Snapshots.{IsTimely, MayFollow, Snapshot, code_of}
use Rattle.pm_state.specs.Standing.{IsActor, IsOf}
use Rattle.pm_driver_orders.specs.declared.Position.{Position}
use Rattle.pm_driver_orders.specs.Drivers.{Driver, posed}
use Rattle.pm_driver_orders.specs.DriverSnapshots.{DriverSnapshot, bare_snapshot, returned_step}
use Rattle.pm_driver_search.specs.declared.run.DriverRun.{DriverRun}

-- the run is one of the plan's, wherever it stands
pub record IsRun (plan : Plan) (r : DriverRun) : Type 0 where
  pub is_of : IsOf plan r.state
  pub entries : HasEntries plan r.state.world.views
  pub room : r.room ≤ r.state.room

-- the world of a snapshot, as it goes on with a line that is a failure, or is none
abbrev pub world_posed : Driver → DriverSnapshot → Bool → World
world_posed D s failing = posed D s.positions failing s.snapshot.world

abbrev pub snapshot_posed : Driver → DriverSnapshot → Bool → Snapshot
snapshot_posed D s failing = record s.snapshot { world = world_posed D s failing }

-- the line may come next there, and a run can reckon with its time
pub record CanCome (plan : Plan) (s : Snapshot) (line : Line) : Type 0 where
  pub may : MayFollow plan s line
  pub by : IsActor plan line.actor
  pub in_time : line.time < 2 ^ 63

-- the snapshot behind a line, where the run stands so
abbrev pub snapshot_behind : DriverSnapshot → World → Line → ℕ → List Position → DriverSnapshot
snapshot_behind s w line failures ps = record {
  snapshot = bare_snapshot (record { world = w; time = line.time; last = Some line.actor; code = code_of line.event });
  positions = ps;
  returned = returned_step line.actor line.event s.positions;
  failures = failures;
}

-- how many stages a line of a place's upper stage adds to those below it, at most
abbrev pub added_by : Then → ℕ
added_by next = if is_some next.back then 0 else length next.push

-- the code that an event returns
abbrev pub code_in : Event → ℤ
code_in (event.Ret helper d code) = code
code_in _ = pos 0

-- a line that may come next at whatever pace comes at a moment that a run can reckon with
abbrev pub IsSoon : Plan → Snapshot → Line → Type 0
IsSoon plan s line = (pace : Pace) → MayFollow plan s line → IsTimely pace plan s line → line.time < 2 ^ 63
