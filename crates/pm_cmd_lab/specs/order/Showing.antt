-- Runs that show an observation, and observations that no schedule shows (this project's own).
use Rattle.std.specs.Prelude.{ℕ, ◌≡◌, ◌<◌, ◌≤◌, List, length, reverse}
use Rattle.pm_outcomes.specs.islands.Homes.{IsHomePart, home}
use Rattle.pm_cmd_lab.specs.orders.Orders.{SchedulesFound, pace_of}
use Rattle.pm_lab_words.specs.declared.request.Bounds.{Bounds}
use Rattle.pm_laws.specs.islands.Apart.{StandAlike}
use Rattle.pm_outcomes.specs.declared.list.observations.Observation.{Observation as Kept}
use Rattle.pm_outcomes.specs.list.Shown.{observation_of}
use Rattle.pm_model.specs.declared.event.Line.{Line}
use Rattle.pm_model.specs.declared.plan.Plan.{Plan}
use Rattle.pm_model.specs.FirstBad.{AreLinesOf}
use Rattle.pm_model.specs.History.{History}
use Rattle.pm_model.specs.Lawful.{IsLawful}
use Rattle.pm_model.specs.World.{world}
use Rattle.pm_explore.specs.schedule.Observations.{HasObservation, Observation}
use Rattle.pm_explore.specs.schedule.Schedules.{IsSchedule, preemptions, snapshot}
use Rattle.pm_outcomes.specs.find.Had.{IsHad, IsHadWithin}
use Rattle.pm_explore.specs.declared.search.found.Ended.TheVariants.{Whole}
use Rattle.pm_explore.specs.search.Seen.{IsSeen}
use Rattle.pm_serial.specs.declared.running.End.{End}
use Rattle.pm_outcomes.specs.witness.Going.{GoesOnFrom}

-- A schedule of the plan at the pace has the observation, and no more of its lines preempt than of any that has it: for each k of which all
-- schedules were seen, if some schedule of at most k preemptions has the observation, at most k of these lines preempt. The schedule is one of a
-- complete round.
pub record IsFewest (bounds : Bounds) (plan : Plan) (found : SchedulesFound bounds plan) (m : Observation) (order : History) : Type 0 where
  pub is_schedule : IsSchedule (pace_of bounds) plan order
  pub has : HasObservation plan (snapshot plan order) m
  pub few : (k : ℕ) → IsSeen found.ended found.rounds k → IsHadWithin (pace_of bounds) plan k m → preemptions plan order ≤ k
  pub of_round : preemptions plan order < length found.rounds

-- Lines, in order, are a lawful run of the plan, of which each has a text. It begins with such a schedule of the part of the observation's island, after
-- which the island stands in the plan as in the part; from there one thread goes on with the whole plan, and ends so.
pub record IsShowing (bounds : Bounds) (plan : Plan) (observation : Kept) (part : Plan) (at : IsHomePart plan observation part) (found : SchedulesFound bounds part) (lines : List Line) (e : End) : Type 0 where
  pub lawful : IsLawful plan (reverse lines)
  pub of_plan : AreLinesOf plan (reverse lines)
  pub order : History
  pub fewest : IsFewest bounds part found (observation_of observation) order
  pub stands : StandAlike plan at.numbering.island (home at.numbering.island observation) (world plan order) (world part order)
  pub goes_on : GoesOnFrom plan order (reverse lines) e

-- no schedule has the observation: none of at most k preemptions, for each k of which all schedules were seen; and where the search saw all, none at all
pub record IsInNone (bounds : Bounds) (plan : Plan) (found : SchedulesFound bounds plan) (m : Observation) : Type 0 where
  pub within : (k : ℕ) → IsSeen found.ended found.rounds k → ¬ IsHadWithin (pace_of bounds) plan k m
  pub of_all : found.ended ≡ Whole → ¬ IsHad (pace_of bounds) plan m
