-- What a search gave, as what was found of a plan's schedules (this project's own).
use Rattle.std.specs.Prelude.{◌≡◌, length, map, min}
use Rattle.pm_cmd_lab.specs.orders.Orders.{SchedulesFound, pace_of}
use Rattle.pm_lab_words.specs.declared.request.Bounds.{Bounds}
use Rattle.pm_model.specs.declared.plan.Plan.{Plan}
use Rattle.pm_explore.specs.schedule.Snapshots.{Follows, start_snapshot}
use Rattle.pm_outcomes.specs.find.Had.{AreShown}
use Rattle.pm_outcomes.specs.declared.find.finding.Outcomes.{Outcomes}
use Rattle.pm_explore.specs.search.Growing.{IsLed}
use Rattle.pm_explore.specs.search.Trees.{AreLed, IsTree}
use Rattle.pm_explore.specs.state.SnapshotOf.{snapshot_of}

pub record IsFound (bounds : Bounds) (plan : Plan) (all : Outcomes) : Type 0 where
  pub found : SchedulesFound bounds plan
  pub observations : found.observations ≡ all.observations.items
  pub rounds : found.rounds ≡ all.found.rounds.items
  pub snapshots : found.snapshots ≡ map snapshot_of all.found.tree.nodes.keys
  pub parents : found.parents ≡ all.found.tree.parents.items
  pub ended : found.ended ≡ all.found.ended

-- the parents lead to each snapshot, and of a round with its preemptions, and each observation has the place of a snapshot that shows it: what the path to a snapshot needs
pub record IsLedThrough (bounds : Bounds) (plan : Plan) (all : Outcomes) : Type 0 where
  pub tree : IsTree (Follows (pace_of bounds) plan) (start_snapshot plan) (map snapshot_of all.found.tree.nodes.keys) all.found.tree.parents.items
  pub near : IsLed (Follows (pace_of bounds) plan) (min bounds.most (length all.found.rounds.items)) (map snapshot_of all.found.tree.nodes.keys) all.found.tree.parents.items
  pub led : AreLed (Follows (pace_of bounds) plan) (map snapshot_of all.found.tree.nodes.keys) all.found.tree.parents.items all.found.rounds.items
  pub shown : AreShown plan (map snapshot_of all.found.tree.nodes.keys) all.found.rounds.items all.observations.items
