-- What the schedules of a plan show, and what a list tells of it (this project's own).
use Rattle.std.specs.Prelude.{ℕ, ◌≡◌, ◌<◌, ◌≤◌, List, Some, length, reverse, slice_get}
use Rattle.pm_outcomes.specs.declared.list.observations.Outcome.{Outcome}
use Rattle.pm_outcomes.specs.list.Shown.{observation_of}
use Rattle.pm_model.specs.declared.event.Line.{Line}
use Rattle.pm_model.specs.declared.plan.Plan.{Plan}
use Rattle.pm_model.specs.History.{History}
use Rattle.pm_model.specs.Lawful.{IsLawful}
use Rattle.pm_explore.specs.declared.schedule.Pace.{Pace}
use Rattle.pm_explore.specs.schedule.Observations.{HasObservation, Observation}
use Rattle.pm_explore.specs.schedule.Schedules.{IsSchedule, preemptions, snapshot}
use Rattle.pm_explore.specs.schedule.Snapshots.{Snapshot}

-- some schedule of whose lines at most k preempt has the observation
pub record IsHadWithin (pace : Pace) (plan : Plan) (k : ℕ) (m : Observation) : Type 0 where
  pub order : History
  pub is_schedule : IsSchedule pace plan order
  pub few : preemptions plan order ≤ k
  pub has : HasObservation plan (snapshot plan order) m

-- some schedule has the observation
pub record IsHad (pace : Pace) (plan : Plan) (m : Observation) : Type 0 where
  pub order : History
  pub is_schedule : IsSchedule pace plan order
  pub has : HasObservation plan (snapshot plan order) m

-- the observation is listed with a number of at most k
pub record IsListedWithin (outcomes : List Outcome) (k : ℕ) (m : Observation) : Type 0 where
  pub index : ℕ
  pub outcome : Outcome
  pub there : slice_get outcomes index ≡ Some outcome
  pub observation : observation_of outcome.observation ≡ m
  pub few : outcome.round ≤ k

-- the observation is listed
pub record IsListed (outcomes : List Outcome) (m : Observation) : Type 0 where
  pub index : ℕ
  pub outcome : Outcome
  pub there : slice_get outcomes index ≡ Some outcome
  pub observation : observation_of outcome.observation ≡ m

-- an observation is listed with a number of at most k exactly where some schedule of at most k preemptions has it
pub record AreExactWithin (pace : Pace) (plan : Plan) (k : ℕ) (outcomes : List Outcome) : Type 0 where
  pub sound : (m : Observation) → IsListedWithin outcomes k m → IsHadWithin pace plan k m
  pub complete : (m : Observation) → IsHadWithin pace plan k m → IsListedWithin outcomes k m

-- an observation is listed exactly where some schedule has it
pub record AreExact (pace : Pace) (plan : Plan) (outcomes : List Outcome) : Type 0 where
  pub sound : (m : Observation) → IsListed outcomes m → IsHad pace plan m
  pub complete : (m : Observation) → IsHad pace plan m → IsListed outcomes m

-- the number of each outcome is that of a complete round
abbrev pub AreOfRounds : List ℕ → List Outcome → Type 0
AreOfRounds rounds outcomes = (i : ℕ) (o : Outcome) → slice_get outcomes i ≡ Some o → o.round < length rounds

-- no observation is listed twice
abbrev pub IsListedOnce : List Outcome → Type 0
IsListedOnce outcomes = (i j : ℕ) (o p : Outcome) → slice_get outcomes i ≡ Some o → slice_get outcomes j ≡ Some p → o.observation ≡ p.observation → i ≡ j

-- the snapshot at a place has the observation
pub record IsShownAt (plan : Plan) (snapshots : List Snapshot) (place : ℕ) (m : Observation) : Type 0 where
  pub where_it_stands : Snapshot
  pub there : slice_get snapshots place ≡ Some where_it_stands
  pub has : HasObservation plan where_it_stands m

-- the place of each outcome is that of a snapshot of its round which has its observation
pub record AreShown (plan : Plan) (snapshots : List Snapshot) (rounds : List ℕ) (outcomes : List Outcome) : Type 0 where
  pub shown : (i : ℕ) (o : Outcome) → slice_get outcomes i ≡ Some o → IsShownAt plan snapshots o.place (observation_of o.observation)
  pub in_round : (i : ℕ) (o : Outcome) (bound : ℕ) → slice_get outcomes i ≡ Some o → slice_get rounds o.round ≡ Some bound → o.place < bound

-- the lines are a lawful schedule that has the observation of the outcome, and no more of them preempt than its number says
pub record IsWitness (pace : Pace) (plan : Plan) (rounds : List ℕ) (o : Outcome) (lines : List Line) : Type 0 where
  pub order : IsSchedule pace plan (reverse lines)
  pub lawful : IsLawful plan (reverse lines)
  pub has : HasObservation plan (snapshot plan (reverse lines)) (observation_of o.observation)
  pub few : o.round < length rounds → preemptions plan (reverse lines) ≤ o.round
