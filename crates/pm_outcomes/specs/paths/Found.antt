-- What a search through the schedules of a plan finds (this project's own).
use Rattle.std.specs.Prelude.{ℕ, ◌≡◌, ◌<◌, ◌≤◌, List, Some, length, slice_get}
use Rattle.pm_model.specs.declared.event.Line.{Line}
use Rattle.pm_model.specs.declared.plan.Plan.{Plan}
use Rattle.pm_model.specs.History.{History}
use Rattle.pm_explore.specs.declared.schedule.Pace.{Pace}
use Rattle.pm_explore.specs.schedule.Schedules.{IsSchedule, preemptions, snapshot}
use Rattle.pm_explore.specs.schedule.Snapshots.{IsTimely, MayFollow, Snapshot}
use Rattle.pm_explore.specs.search.Exact.{IsAmong}
use Rattle.pm_explore.specs.search.Trees.{IsPath}

-- the first so many snapshots are exactly those at which the schedules stand of whose lines at most k preempt
pub record AreOfSchedules (pace : Pace) (plan : Plan) (k : ℕ) (snapshots : List Snapshot) (bound : ℕ) : Type 0 where
  pub within : bound ≤ length snapshots
  pub sound : (i : ℕ) (s : Snapshot) → i < bound → slice_get snapshots i ≡ Some s → (h : History) × IsSchedule pace plan h × (preemptions plan h ≤ k) × (snapshot plan h ≡ s)
  pub complete : (h : History) → IsSchedule pace plan h → preemptions plan h ≤ k → IsAmong snapshots bound (snapshot plan h)

-- the snapshots are exactly those at which the schedules stand
pub record AreOfAllSchedules (pace : Pace) (plan : Plan) (snapshots : List Snapshot) : Type 0 where
  pub sound : (i : ℕ) (s : Snapshot) → slice_get snapshots i ≡ Some s → (h : History) × IsSchedule pace plan h × (snapshot plan h ≡ s)
  pub complete : (h : History) → IsSchedule pace plan h → IsAmong snapshots (length snapshots) (snapshot plan h)

-- the path back from a place has as many lines as the plan allows, or more
pub record IsTooFar (plan : Plan) (parents : List ℕ) (at : ℕ) : Type 0 where
  pub path : List ℕ
  pub leads : IsPath parents at path
  pub far : plan.lines < length path

-- the line may come next there, when the pace lets it
pub record MayComeNext (pace : Pace) (plan : Plan) (s : Snapshot) (line : Line) : Type 0 where
  pub may : MayFollow plan s line
  pub timely : IsTimely pace plan s line
