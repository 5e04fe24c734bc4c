-- What `orders` may come to (this project's own).
use Rattle.std.specs.Prelude.{◌≡◌, ◌<◌, ◌≤◌, ◌+◌, ⊤, ℕ, Bool, List, Option, Some, None, flat_map, fold, length, map, max, min, slice_get, sum_by, if◌then◌else◌}
use Rattle.std.specs.List.{range_with_len}
use Rattle.std.specs.List.Sorted.{IsSorted}
use Rattle.pm_outcomes.specs.islands.Homes.{at_home, has_rest}
use Rattle.pm_cmd_lab.specs.orders.OrdersOutcome.{outcome_of_schedules}
use Rattle.pm_cmd_lab.specs.ends.Coming.{ending_of}
use Rattle.pm_cmd_lab.specs.ends.Ending.{Ending}
use Rattle.pm_lab_words.specs.declared.request.Bounds.{Bounds}
use Rattle.pm_outcomes.specs.declared.list.observations.Observation.{Observation}
use Rattle.pm_outcomes.specs.declared.list.observations.Observation.TheVariants.{End, Return}
use Rattle.pm_outcomes.specs.declared.list.observations.Outcome.{Outcome}
use Rattle.pm_outcomes.specs.list.Order.{by_text}
use Rattle.pm_model.specs.declared.plan.Plan.{Plan}
use Rattle.pm_model.specs.Islands.{IsPart, Node, Numbering, the_device}
use Rattle.pm_explore.specs.declared.schedule.Pace.{Pace}
use Rattle.pm_explore.specs.declared.schedule.Pace.TheVariants.{Late, Eager}
use Rattle.pm_explore.specs.schedule.Snapshots.{Follows, Snapshot, start_snapshot}
use Rattle.pm_outcomes.specs.declared.text.reach.Reach.{Reach}
use Rattle.pm_outcomes.specs.declared.text.reach.Reach.TheVariants.{All, Limit, Within}
use Rattle.pm_outcomes.specs.text.Reached.{reach_of}
use Rattle.pm_outcomes.specs.text.Texts.{differs, told}
use Rattle.pm_outcomes.specs.find.Had.{AreExact, AreExactWithin, AreOfRounds, IsListedOnce}
use Rattle.pm_explore.specs.declared.search.found.Ended.{Ended}
use Rattle.pm_explore.specs.declared.search.found.Ended.TheVariants.{Rounds, Stopped, Whole}
use Rattle.pm_explore.specs.declared.search.graph.Stop.TheVariants.{Full, NoMemory as WantsMemory, TooFar}
use Rattle.pm_explore.specs.search.Exact.{EndWithAll}
use Rattle.pm_explore.specs.search.Growing.{IsLed}
use Rattle.pm_explore.specs.search.Seen.{IsSeen}
use Rattle.pm_explore.specs.search.Trees.{IsTree}
use Rattle.pm_outcomes.specs.paths.Found.{AreOfAllSchedules, AreOfSchedules, IsTooFar}

abbrev pub pace_of : Bounds → Pace
pace_of bounds = if bounds.late then Late else Eager

-- What was found of a plan's schedules within bounds: observations, and the snapshots at which schedules stand, in so many rounds. For each k of which
-- all schedules were seen the observations are exact of schedules of at most k preemptions, and the snapshots of a round that is complete are those of
-- its schedules; where the search saw all, of all schedules, and the last round has all snapshots. Each observation has the number of a complete round.
-- The rounds are for 0 to so many preemptions as the bounds say, unless there is no more to see, or a limit came first: as many snapshots
-- as the bounds say, which are never more, or a path to a snapshot with as many lines as the plan allows. No snapshot is there twice, each but the start follows its
-- parent, and on the path to it no more lines preempt than the bounds say, nor more than rounds are complete: a round that isn't is the next.
-- Where no limit came first the last round has all snapshots. The observations stand in the order of their text, those of one command or device by
-- one another.
pub record SchedulesFound (bounds : Bounds) (plan : Plan) : Type 0 where
  pub observations : List Outcome
  pub rounds : List ℕ
  pub snapshots : List Snapshot
  pub parents : List ℕ
  pub ended : Ended
  pub exact : (k : ℕ) → IsSeen ended rounds k → AreExactWithin (pace_of bounds) plan k observations
  pub of_schedules : (k bound : ℕ) → slice_get rounds k ≡ Some bound → AreOfSchedules (pace_of bounds) plan k snapshots bound
  pub whole : ended ≡ Whole → AreExact (pace_of bounds) plan observations
  pub all_schedules : ended ≡ Whole → AreOfAllSchedules (pace_of bounds) plan snapshots
  pub last : ended ≡ Whole → EndWithAll snapshots rounds
  pub end : ended ≡ Rounds → EndWithAll snapshots rounds
  pub few : length rounds ≤ bounds.most + 1
  pub tree : IsTree (Follows (pace_of bounds) plan) (start_snapshot plan) snapshots parents
  pub near : IsLed (Follows (pace_of bounds) plan) (min bounds.most (length rounds)) snapshots parents
  pub of_rounds : AreOfRounds rounds observations
  pub once : IsListedOnce observations
  pub in_order : IsSorted by_text observations
  pub complete : ended ≡ Rounds → length rounds ≡ bounds.most + 1
  pub room : length snapshots ≤ max bounds.states 1
  pub full : ended ≡ Stopped Full → bounds.states ≤ length snapshots
  pub too_far : ended ≡ Stopped TooFar → (at : ℕ) × IsTooFar plan parents at
  pub memory : ended ≡ Stopped WantsMemory → ⊥

-- how far the observations are exact
abbrev pub reach : {bounds : Bounds} {plan : Plan} → SchedulesFound bounds plan → Reach
reach found = reach_of found.ended (length found.rounds)

-- What was found of one island, which has this number: of the schedules of its part, the plan with every script outside the island empty.
pub record IslandFound (bounds : Bounds) (plan : Plan) (island : Node → ℕ) : Type 0 where
  pub number : ℕ
  pub part : Plan
  pub is_part : IsPart plan island number part
  pub found : SchedulesFound bounds part

-- the outcomes of an island that are at home there: what its callers' commands return and how its devices end
abbrev pub own_outcomes : {bounds : Bounds} {plan : Plan} {island : Node → ℕ} → IslandFound bounds plan island → List Outcome
own_outcomes {island = island} one = at_home island one.number one.found.observations

abbrev pub own_snapshots : {bounds : Bounds} {plan : Plan} {island : Node → ℕ} → IslandFound bounds plan island → ℕ
own_snapshots one = length one.found.snapshots

-- the lesser round; no round is less than any
abbrev pub lesser_round : Option ℕ → Option ℕ → Option ℕ
lesser_round None k = None
lesser_round (Some j) None = None
lesser_round (Some j) (Some k) = Some (min j k)

-- how far two lists are exact together: of all schedules where both are; else up to the lesser round of those that aren't, and cut by a limit where either is
abbrev pub both : Reach → Reach → Reach
both All r = r
both (Within j) All = Within j
both (Within j) (Within k) = Within (min j k)
both (Within j) (Limit k) = Limit (lesser_round (Some j) k)
both (Limit j) All = Limit j
both (Limit j) (Within k) = Limit (lesser_round j (Some k))
both (Limit j) (Limit k) = Limit (lesser_round j k)

-- of islands all outcomes, how far they are exact, and how many snapshots were found
abbrev pub outcomes_in : {bounds : Bounds} {plan : Plan} {island : Node → ℕ} → List (IslandFound bounds plan island) → List Outcome
outcomes_in islands = flat_map (λ one. own_outcomes one) islands

abbrev pub reach_in : {bounds : Bounds} {plan : Plan} {island : Node → ℕ} → List (IslandFound bounds plan island) → Reach
reach_in islands = fold (λ r one. both r (reach one.found)) All islands

abbrev pub snapshots_in : {bounds : Bounds} {plan : Plan} {island : Node → ℕ} → List (IslandFound bounds plan island) → ℕ
snapshots_in islands = sum_by (λ one. own_snapshots one) islands

-- What was found of a plan: of each of its islands, by their numbers, and behind them, where a device has no island or there is none, of the plan with
-- every script empty; such a device has that number.
pub record IslandsFound (bounds : Bounds) (plan : Plan) : Type 0 where
  pub count : ℕ
  pub numbering : Numbering plan count
  pub loose : (d : ℕ) → numbering.island (the_device d) ≤ count
  pub islands : List (IslandFound bounds plan numbering.island)
  pub numbers : map (λ one. one.number) islands ≡ range_with_len 0 (if has_rest plan numbering.island count then count + 1 else count)

-- the plan has the caller that returned, or the device that is left so
abbrev pub IsOfPlan : Plan → Observation → Type 0
IsOfPlan plan (Return r) = r.caller < length plan.callers
IsOfPlan plan (End l) = l.device.0 < length plan.devices

-- the last line names this round, or all
abbrev pub IsNamed : ℕ → Reach → Type 0
IsNamed k All = ⊤
IsNamed k (Within j) = k ≤ j
IsNamed k (Limit (Some j)) = k ≤ j
IsNamed k (Limit None) = ⊥

-- `orders PLAN`: the text tells the outcomes that were found, how far they are exact, and the number of the snapshots
pub record OrdersEnds (bounds : Bounds) (differ : Bool) (plan : Plan) (ending : Ending) : Type 0 where
  pub found : IslandsFound bounds plan
  pub is : ending ≡ ending_of (outcome_of_schedules (reach_in found.islands) (differs (outcomes_in found.islands)))
      (told plan differ (reach_in found.islands) (snapshots_in found.islands) (outcomes_in found.islands))
