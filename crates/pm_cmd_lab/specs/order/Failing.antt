-- What `order .. fails INDEX` may come to (this project's own).
use Rattle.std.specs.Prelude.{ℕ, ◌≡◌, ◌-◌, ⊤, List, Some, None, Ok, Err, length, reverse, slice_get}
use Rattle.pm_expect_report.specs.broken.Found.{BreaksSo, IsBroken, IsBrokenWithin, all_of}
use Rattle.pm_expect_report.specs.declared.broken.expectation.Breach.{Breach}
use Rattle.pm_expect_report.specs.declared.broken.expectation.Expectation.{Expectation}
use Rattle.pm_cmd_ends.specs.Ending.{Taking}
use Rattle.pm_expect.specs.declared.expectation.Expectations.{Expectations}
use Rattle.pm_expect_report.specs.orders.Texts.{no_expectation_line, unbroken_line}
use Rattle.pm_cmd_lab.specs.ends.Ending.{Absent, Ending, Refused, Unseen}
use Rattle.pm_cmd_lab.specs.declared.ends.ending.Fault.{Fault}
use Rattle.pm_cmd_lab.specs.declared.ends.ending.Fault.TheVariants as fault
use Rattle.pm_cmd_lab.specs.find.Check.{IsToldUnread}
use Rattle.pm_cmd_lab.specs.order.Order.{none_ending, run_ending, too_far_text}
use Rattle.pm_cmd_lab.specs.order.Work.{Work}
use Rattle.pm_cmd_lab.specs.declared.order.stop.Stop.{Stop}
use Rattle.pm_cmd_lab.specs.declared.order.stop.Stop.TheVariants as stop
use Rattle.pm_cmd_lab.specs.orders.Orders.{SchedulesFound, pace_of, reach}
use Rattle.pm_lab_words.specs.declared.request.Bounds.{Bounds}
use Rattle.pm_model.specs.declared.event.Line.{Line}
use Rattle.pm_model.specs.declared.plan.Plan.{Plan}
use Rattle.pm_model.specs.FirstBad.{AreLinesOf}
use Rattle.pm_model.specs.History.{History}
use Rattle.pm_model.specs.Lawful.{IsLawful}
use Rattle.pm_model.specs.Text.{text}
use Rattle.pm_explore.specs.declared.search.found.Ended.TheVariants.{Whole}
use Rattle.pm_explore.specs.search.Seen.{IsSeen}
use Rattle.pm_serial.specs.declared.running.End.{End}
use Rattle.pm_outcomes.specs.paths.Found.{IsTooFar}
use Rattle.pm_outcomes.specs.witness.Going.{GoesOnFrom}

-- A schedule of the plan within the bounds stands where the expectation is broken, and no more of its lines preempt than of any that does.
pub record BreaksFewest (bounds : Bounds) (plan : Plan) (e : Expectation) (order : History) : Type 0 where
  pub breach : Breach
  pub so : BreaksSo (pace_of bounds) plan bounds.most e breach order

-- Lines, in order, are a lawful run of the plan, of which each has a text. It begins with such a schedule, from which one thread goes on
-- with it, and ends so.
pub record IsBreaking (bounds : Bounds) (plan : Plan) (e : Expectation) (lines : List Line) (ended : End) : Type 0 where
  pub lawful : IsLawful plan (reverse lines)
  pub of_plan : AreLinesOf plan (reverse lines)
  pub order : History
  pub fewest : BreaksFewest bounds plan e order
  pub goes_on : GoesOnFrom plan order (reverse lines) ended

-- no schedule breaks it: none of at most k preemptions, for each k of which all schedules were seen; and where the search saw all, none at all
pub record IsUnbroken (bounds : Bounds) (plan : Plan) (found : SchedulesFound bounds plan) (e : Expectation) : Type 0 where
  pub within : (k : ℕ) → IsSeen found.ended found.rounds k → ¬ IsBrokenWithin (pace_of bounds) plan k e
  pub of_all : found.ended ≡ Whole → ¬ IsBroken (pace_of bounds) plan e

-- Of an expectation: this is the text of a run that breaks it; or no schedule does, of those that were gone through; or the path to where one does
-- has more lines than the plan allows.
pub data BreakEnds (bounds : Bounds) (plan : Plan) (e : Expectation) : Ending → Type 0 where
  breaks : (lines : List Line) (ended : End) → IsBreaking bounds plan e lines ended → BreakEnds bounds plan e (run_ending ended (text plan lines))
  unbroken : (found : SchedulesFound bounds plan) → IsUnbroken bounds plan found e → BreakEnds bounds plan e (none_ending (reach found) (unbroken_line plan (reach found) e))
  too_far : (found : SchedulesFound bounds plan) → (at : ℕ) → IsTooFar plan found.parents at → BreakEnds bounds plan e (Unseen too_far_text)

-- over what a file expects of a plan: it has no expectation of this number, from 1; or it has
pub data FailingEnds (bounds : Bounds) (index : ℕ) (plan : Plan) (text : List ℕ) (expected : Expectations) : Ending → Type 0 where
  lacks : slice_get (all_of expected) (index - 1) ≡ None → FailingEnds bounds index plan text expected (Refused (no_expectation_line index (length (all_of expected))))
  has : (e : Expectation) → slice_get (all_of expected) (index - 1) ≡ Some e → (ending : Ending) → BreakEnds bounds plan e ending → FailingEnds bounds index plan text expected ending

-- lines, in order, are a lawful schedule that breaks it
pub record IsPathBreaking (bounds : Bounds) (plan : Plan) (e : Expectation) (lines : List Line) : Type 0 where
  pub lawful : IsLawful plan (reverse lines)
  pub fewest : BreaksFewest bounds plan e (reverse lines)

-- why there is no such schedule: none breaks it, or a limit came; or memory ran out
abbrev pub IsNotBroken : Bounds → Plan → Expectation → Stop → Type 0
IsNotBroken bounds plan e (stop.Fault (fault.Refused text)) = ⊥
IsNotBroken bounds plan e (stop.Fault fault.ReadFailed) = ⊥
IsNotBroken bounds plan e (stop.Fault fault.WriteFailed) = ⊥
IsNotBroken bounds plan e (stop.Fault fault.NoMemory) = ⊤
IsNotBroken bounds plan e (stop.Absent message) = BreakEnds bounds plan e (Absent message.items)
IsNotBroken bounds plan e (stop.Unseen message) = BreakEnds bounds plan e (Unseen message.items)

-- what was told of a file of expectations that isn't read
abbrev pub IsToldOfFile : Fault → Work → Taking → Type 0
IsToldOfFile f (Ok told) out = IsToldUnread f (Ok told) out
IsToldOfFile f (Err (stop.Fault g)) out = IsToldUnread f (Err g) out
IsToldOfFile f (Err (stop.Absent message)) out = ⊥
IsToldOfFile f (Err (stop.Unseen message)) out = ⊥
