-- Which observations of a list of snapshots were seen (this project's own).
use Rattle.std.specs.Prelude.{ℕ, ◌≡◌, ◌<◌, List, Some, slice_get}
use Rattle.std.specs.List.{Contains}
use Rattle.pm_outcomes.specs.declared.list.observations.Observation.{Observation}
use Rattle.pm_outcomes.specs.list.Firsts.{AreFirsts}
use Rattle.pm_outcomes.specs.list.Shown.{observation_of}
use Rattle.pm_model.specs.declared.plan.Plan.{Plan}
use Rattle.pm_explore.specs.schedule.Observations.{HasObservation, Observation as Shown}
use Rattle.pm_explore.specs.schedule.Snapshots.{Snapshot}
use Rattle.pm_outcomes.specs.find.Had.{IsShownAt}

-- it was seen at this place
pub record IsSeenAt (seen : List (Observation × ℕ)) (place : ℕ) (q : Shown) : Type 0 where
  pub kept : Observation
  pub is : observation_of kept ≡ q
  pub there : Contains seen (kept, place)

-- what was seen is exactly what the snapshots before a place have
pub record AreSeen (plan : Plan) (snapshots : List Snapshot) (bound : ℕ) (seen : List (Observation × ℕ)) : Type 0 where
  pub sound : (m : Observation) (place : ℕ) → Contains seen (m, place) → (place < bound) × IsShownAt plan snapshots place (observation_of m)
  pub complete : (j : ℕ) (s : Snapshot) (q : Shown) → j < bound → slice_get snapshots j ≡ Some s → HasObservation plan s q → IsSeenAt seen j q

-- the list has each observation of the snapshots before a place once, with the first place that shows it
pub record AreFirstsBefore (plan : Plan) (snapshots : List Snapshot) (bound : ℕ) (firsts : List (Observation × ℕ)) : Type 0 where
  pub seen : List (Observation × ℕ)
  pub all_seen : AreSeen plan snapshots bound seen
  pub are_firsts : AreFirsts seen firsts
