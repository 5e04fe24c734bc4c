-- What a run is of which no lines are kept, and what one line makes of it (this project's own).
use Rattle.std.specs.Prelude.{ℕ, ◌≡◌, ◌<◌, ◌≤◌, ◌+◌, ◌*◌, List, Some, length, reverse, slice_get}
use Rattle.pm_base.specs.declared.ActorId.{ActorId}
use Rattle.pm_model.specs.declared.event.Line.{Line}
use Rattle.pm_model.specs.declared.plan.Plan.{Plan}
use Rattle.pm_model.specs.History.{History}
use Rattle.pm_model.specs.Lawful.{IsLawful}
use Rattle.pm_explore.specs.declared.schedule.Pace.{Pace}
use Rattle.pm_explore.specs.schedule.Schedules.{IsSchedule, preemptions, snapshot}
use Rattle.pm_explore.specs.schedule.Snapshots.{Follows, IsTimely, MayFollow, Snapshot, after}
use Rattle.pm_explore.specs.search.Trees.{IsLedWithin}
use Rattle.pm_state.specs.Standing.{IsOf}
use Rattle.pm_explore.specs.successors.Standing.{snapshot_at}
use Rattle.pm_outcomes.specs.declared.paths.run.Run.{Run}

-- where it stands
abbrev pub snapshot_of_run : Run → Snapshot
snapshot_of_run r = snapshot_at r.state.world r.last

-- it stands where some lawful list does, which has so many lines; no line came much later than the one before
pub record IsRunOf (plan : Plan) (r : Run) : Type 0 where
  pub list : History
  pub lawful : IsLawful plan list
  pub stands : snapshot plan list ≡ snapshot_of_run r
  pub lines : length list ≡ r.lines
  pub is_of : IsOf plan r.state
  pub early : r.last.time ≤ 1000000 * r.lines

-- a lawful list of so many lines stands there; no line came much later than the one before
pub record IsListTo (plan : Plan) (s : Snapshot) (lines : ℕ) : Type 0 where
  pub list : History
  pub lawful : IsLawful plan list
  pub stands : snapshot plan list ≡ s
  pub many : length list ≡ lines
  pub early : s.time ≤ 1000000 * lines

-- it stands at the snapshot, and has so many lines
pub record StandsAt (r : Run) (s : Snapshot) (lines : ℕ) : Type 0 where
  pub snapshot_is : snapshot_of_run r ≡ s
  pub lines_are : r.lines ≡ lines

-- from one to the other by the line of this actor at this time
pub record Took (plan : Plan) (old new : Run) (actor : ActorId) (time : ℕ) : Type 0 where
  pub line : Line
  pub by : line.actor ≡ actor
  pub at : line.time ≡ time
  pub may : MayFollow plan (snapshot_of_run old) line
  pub leads : snapshot_of_run new ≡ after plan (snapshot_of_run old) line
  pub run : IsRunOf plan new
  pub lines : new.lines ≡ old.lines + 1

-- by the line, which the pace lets come, from one snapshot to the other
pub record LeadsTo (pace : Pace) (plan : Plan) (from to : Snapshot) (line : Line) : Type 0 where
  pub may : MayFollow plan from line
  pub timely : IsTimely pace plan from line
  pub leads : to ≡ after plan from line

-- the lines are a schedule that stands where the run does
pub record AreLinesOf (pace : Pace) (plan : Plan) (r : Run) (lines : List Line) : Type 0 where
  pub order : IsSchedule pace plan (reverse lines)
  pub stands : snapshot plan (reverse lines) ≡ snapshot_of_run r
  pub many : length lines ≡ r.lines

-- the lines are a lawful schedule, which stands at a snapshot
pub record IsScheduleTo (pace : Pace) (plan : Plan) (snapshots : List Snapshot) (at : ℕ) (lines : List Line) : Type 0 where
  pub order : IsSchedule pace plan (reverse lines)
  pub lawful : IsLawful plan (reverse lines)
  pub stands : slice_get snapshots at ≡ Some (snapshot plan (reverse lines))

-- no more of the lines preempt than the parents lead to the place by
abbrev pub IsAsLed : Pace → Plan → List Snapshot → List ℕ → ℕ → List Line → Type 0
IsAsLed pace plan snapshots parents at lines = (k : ℕ) → IsLedWithin (Follows pace plan) snapshots parents k at → preemptions plan (reverse lines) ≤ k
