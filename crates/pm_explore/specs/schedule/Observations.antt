-- What shows where a schedule stands (this project's own).
use Rattle.std.specs.Prelude.{ℕ, ℤ, ◌≡◌, ◌<◌, true, ◌∷◌, Some, length}
use Rattle.pm_base.specs.declared.ActorId.TheVariants.{Caller}
use Rattle.pm_base.specs.declared.DevId.{DevId}
use Rattle.pm_base.specs.declared.Status.{Status}
use Rattle.pm_model.specs.declared.event.Event.TheVariants as event
use Rattle.pm_model.specs.declared.event.Helper.{Helper}
use Rattle.pm_model.specs.declared.event.Line.{Line}
use Rattle.pm_model.specs.declared.plan.Plan.{Plan}
use Rattle.pm_model.specs.History.{History}
use Rattle.pm_model.specs.Lawful.{is_finished}
use Rattle.pm_model.specs.Views.{device}
use Rattle.pm_model.specs.World.{called_by}
use Rattle.pm_explore.specs.schedule.Snapshots.{Snapshot}

-- the last line is the return of a caller, with this code
pub record EndsWithReturn (h : History) (caller : ℕ) (code : ℤ) : Type 0 where
  pub line : Line
  pub before : History
  pub lines : h ≡ line ∷ before
  pub by : line.actor ≡ Caller caller
  pub helper : Helper
  pub d : DevId
  pub returns : line.event ≡ event.Ret helper d code

-- a caller's n-th command, from 1, returns a code; or the run is finished and leaves a device so
pub data Observation : Type 0 where
  Returns : (caller command : ℕ) (code : ℤ) → Observation
  Ends : (d : DevId) (status : Status) (usage : ℕ) (error : ℤ) → Observation

abbrev pub HasObservation : Plan → Snapshot → Observation → Type 0
HasObservation plan s (Returns caller command code) = (s.last ≡ Some (Caller caller)) × (s.code ≡ Some code) × (called_by s.world caller ≡ command)
HasObservation plan s (Ends d status usage error) =
    (is_finished plan s.world ≡ true) × (d.0 < length plan.devices)
    × ((device s.world.views d).status ≡ status) × ((device s.world.views d).usage ≡ usage) × ((device s.world.views d).error ≡ error)
