-- What the work of `order` came to, before its message is written (this project's own).
use Rattle.std.specs.Prelude.{ℕ, ⊤, List, Result, Ok, Err, reverse}
use Rattle.pm_outcomes.specs.islands.Homes.{IsHomePart}
use Rattle.pm_cmd_ends.specs.Ending.{Taking, TookNothing}
use Rattle.pm_cmd_lab.specs.ends.Coming.{Came, work_message, work_status}
use Rattle.pm_cmd_lab.specs.ends.Ending.{Absent, Ending, Unseen}
use Rattle.pm_cmd_lab.specs.declared.ends.ending.Fault.TheVariants as fault
use Rattle.pm_cmd_lab.specs.declared.ends.ending.Outcome.{Outcome}
use Rattle.pm_cmd_lab.specs.declared.ends.ending.Outcome.TheVariants as outcome
use Rattle.pm_cmd_lab.specs.declared.order.stop.Stop.{Stop}
use Rattle.pm_cmd_lab.specs.declared.order.stop.Stop.TheVariants as stop
use Rattle.pm_cmd_lab.specs.order.Order.{ObservationEnds}
use Rattle.pm_cmd_lab.specs.order.Showing.{IsFewest}
use Rattle.pm_cmd_lab.specs.orders.Orders.{SchedulesFound}
use Rattle.pm_lab_words.specs.declared.request.Bounds.{Bounds}
use Rattle.pm_outcomes.specs.declared.list.observations.Observation.{Observation}
use Rattle.pm_outcomes.specs.list.Shown.{observation_of}
use Rattle.pm_model.specs.declared.event.Line.{Line}
use Rattle.pm_model.specs.declared.plan.Plan.{Plan}
use Rattle.pm_model.specs.Lawful.{IsLawful}
use Rattle.pm_model.specs.Text.{text}
use Rattle.pm_serial.specs.declared.running.End.{End}
use Rattle.pm_serial.specs.declared.running.End.TheVariants as end

abbrev pub Work : Type 0
Work = Result Outcome Stop

abbrev pub status_after : Work → ℕ
status_after (Ok told) = work_status (Ok told)
status_after (Err (stop.Fault f)) = work_status (Err f)
status_after (Err (stop.Absent message)) = 1
status_after (Err (stop.Unseen message)) = 6

abbrev pub message_after : List ℕ → Work → List ℕ
message_after file (Ok told) = work_message file (Ok told)
message_after file (Err (stop.Fault f)) = work_message file (Err f)
message_after file (Err (stop.Absent message)) = message.items
message_after file (Err (stop.Unseen message)) = message.items

-- the work of a command that may come to these endings is done or has a fault, or it says that something isn't there
abbrev pub CameTo : (Ending → Type 0) → Work → Type 0 → Taking → Type 0
CameTo Ends (Ok told) Unread out = Came Ends (Ok told) Unread out
CameTo Ends (Err (stop.Fault f)) Unread out = Came Ends (Err f) Unread out
CameTo Ends (Err (stop.Absent message)) Unread out = Ends (Absent message.items) × TookNothing out
CameTo Ends (Err (stop.Unseen message)) Unread out = Ends (Unseen message.items) × TookNothing out

-- lines, in order, are a lawful schedule of the part of its island that has the observation
pub record IsPathTo (bounds : Bounds) (plan : Plan) (observation : Observation) (lines : List Line) : Type 0 where
  pub part : Plan
  pub at : IsHomePart plan observation part
  pub found : SchedulesFound bounds part
  pub lawful : IsLawful part (reverse lines)
  pub fewest : IsFewest bounds part found (observation_of observation) (reverse lines)

-- why there is no such schedule: none has the observation, or a limit came; or memory ran out
abbrev pub IsNotShown : Bounds → Plan → Observation → Stop → Type 0
IsNotShown bounds plan observation (stop.Fault (fault.Refused text)) = ⊥
IsNotShown bounds plan observation (stop.Fault fault.ReadFailed) = ⊥
IsNotShown bounds plan observation (stop.Fault fault.WriteFailed) = ⊥
IsNotShown bounds plan observation (stop.Fault fault.NoMemory) = ⊤
IsNotShown bounds plan observation (stop.Absent message) = ObservationEnds bounds plan observation (Absent message.items)
IsNotShown bounds plan observation (stop.Unseen message) = ObservationEnds bounds plan observation (Unseen message.items)

-- how a run that ends so is told of
abbrev pub outcome_of_end : End → Outcome
outcome_of_end end.Finished = outcome.Done
outcome_of_end end.AtLimit = outcome.AtLimit
