-- What `orders --expect` may come to (this project's own).
use Rattle.std.specs.Prelude.{◌≡◌, ◌↔◌, ℕ, Bool, List, ◌++◌, All, Option, Some, IsSome, length, map}
use Rattle.pm_expect_report.specs.broken.Found.{BreaksSo, IsBroken, IsBrokenWithin, IsToldWithin, all_of}
use Rattle.pm_expect_report.specs.declared.broken.firsts.Broken.{Broken}
use Rattle.pm_cmd_ends.specs.Reading.{IsRead}
use Rattle.pm_expect.specs.declared.expectation.Expectations.{Expectations}
use Rattle.pm_expect_report.specs.orders.Judged.{HasLine, what_of}
use Rattle.pm_expect_report.specs.orders.Texts.{has_broken, judged_lines}
use Rattle.pm_expect_report.specs.declared.orders.judging.Judged.{Judged}
use Rattle.pm_cmd_lab.specs.ends.Coming.{ending_of}
use Rattle.pm_cmd_lab.specs.ends.Ending.{Ending}
use Rattle.pm_cmd_lab.specs.orders.Orders.{SchedulesFound, pace_of, reach}
use Rattle.pm_cmd_lab.specs.orders.OrdersOutcome.{outcome_of_schedules}
use Rattle.pm_lab_words.specs.declared.request.Bounds.{Bounds}
use Rattle.pm_model.specs.declared.plan.Plan.{Plan}
use Rattle.pm_model.specs.History.{History}
use Rattle.pm_outcomes.specs.text.Texts.{told}
use Rattle.pm_explore.specs.declared.search.found.Ended.TheVariants.{Whole}
use Rattle.pm_explore.specs.search.Seen.{IsSeen}

-- What was found decides an expectation: for each k of which all schedules were seen it is told as broken with a number of at most k exactly where some
-- schedule of at most k preemptions breaks it; where the search saw all, it is told as broken exactly where some schedule breaks it; and what is told of
-- it is how a schedule within the bounds breaks it that has the fewest preemptions of all that do.
pub record IsDecided (bounds : Bounds) (plan : Plan) (found : SchedulesFound bounds plan) (j : Judged) : Type 0 where
  pub within : (k : ℕ) → IsSeen found.ended found.rounds k → IsToldWithin k j.broken ↔ IsBrokenWithin (pace_of bounds) plan k j.expectation
  pub of_all : found.ended ≡ Whole → IsSome j.broken ↔ IsBroken (pace_of bounds) plan j.expectation
  pub told_so : (b : Broken) → j.broken ≡ Some b → (order : History) × BreaksSo (pace_of bounds) plan bounds.most j.expectation b.breach order

-- `orders PLAN --expect FILE`, over the file's text and what it expects: a line for each expectation, with a line of the file, and behind
-- them the text of `orders`
pub record ExpectEnds (bounds : Bounds) (differ : Bool) (file : List ℕ) (plan : Plan) (text : List ℕ) (expected : Expectations) (ending : Ending) : Type 0 where
  pub found : SchedulesFound bounds plan
  pub judged : List Judged
  pub each : map what_of judged ≡ all_of expected
  pub decided : All (IsDecided bounds plan found) judged
  pub lines : All (HasLine text) judged
  pub is : ending ≡ ending_of (outcome_of_schedules (reach found) (has_broken judged))
      (judged_lines plan file (reach found) (length found.rounds) judged ++ told plan differ (reach found) (length found.snapshots) found.observations)

-- which file's read failed, of a plan and a file of expectations: the plan's, and no other file was asked for where all is told of it; or that
-- of the expectations, and the plan was read
pub data ExpectUnread (all : Bool) (known : Option (List ℕ)) (plan expect : List ℕ) (Alone Failed : Type 0) : List ℕ → Type 0 where
  of_plan : (IsSome known → Alone) → Failed → ExpectUnread all known plan expect Alone Failed plan
  of_expect : (read : Plan) → IsRead all known read → Failed → ExpectUnread all known plan expect Alone Failed expect
