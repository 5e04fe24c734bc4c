-- What `order` may come to (this project's own).
use Rattle.std.specs.Prelude.{ℕ, ◌≡◌, List, Ok, Err, codes}
use Rattle.pm_outcomes.specs.islands.Homes.{IsHomePart}
use Rattle.pm_cmd_lab.specs.ends.Ending.{Absent, AtLimit, Done, Ending, Refused, Unseen}
use Rattle.pm_outcomes.specs.declared.wanted.sought.Missing.{Missing}
use Rattle.pm_outcomes.specs.wanted.Missing.{missing_text}
use Rattle.pm_cmd_lab.specs.order.Showing.{IsInNone, IsShowing}
use Rattle.pm_lab_words.specs.Request.{Sought}
use Rattle.pm_outcomes.specs.wanted.Sought.{observation_sought}
use Rattle.pm_cmd_lab.specs.orders.Orders.{SchedulesFound, reach}
use Rattle.pm_lab_words.specs.declared.request.Bounds.{Bounds}
use Rattle.pm_outcomes.specs.declared.list.observations.Observation.{Observation}
use Rattle.pm_outcomes.specs.list.Shown.{observation_of}
use Rattle.pm_model.specs.declared.event.Line.{Line}
use Rattle.pm_model.specs.declared.plan.Plan.{Plan}
use Rattle.pm_model.specs.Text.{text}
use Rattle.pm_outcomes.specs.text.Absent.{absent_line}
use Rattle.pm_outcomes.specs.declared.text.reach.Reach.{Reach}
use Rattle.pm_outcomes.specs.declared.text.reach.Reach.TheVariants.{All, Limit, Within}
use Rattle.pm_serial.specs.declared.running.End.{End}
use Rattle.pm_serial.specs.declared.running.End.TheVariants as end
use Rattle.pm_outcomes.specs.paths.Found.{IsTooFar}

-- the ending of a run that ends so, with this text: it is finished, or it has all the lines that the plan allows
abbrev pub run_ending : End → List ℕ → Ending
run_ending end.Finished trace = Done trace
run_ending end.AtLimit trace = AtLimit trace

-- that of an observation that none of the schedules has, so far as they were gone through
abbrev pub none_ending : Reach → List ℕ → Ending
none_ending All message = Absent message
none_ending (Within k) message = Absent message
none_ending (Limit k) message = Unseen message

abbrev pub too_far_text : List ℕ
too_far_text = codes "order: the path there has more lines than the plan allows\n"

-- Of an observation of the plan, by the schedules of the part of its island: this is the text of a run that shows it; or no schedule has it, of those
-- that were gone through; or the path to where it shows has as many lines as the plan allows.
pub data ObservationEnds (bounds : Bounds) (plan : Plan) (observation : Observation) : Ending → Type 0 where
  shows : (part : Plan) (at : IsHomePart plan observation part) (found : SchedulesFound bounds part) (lines : List Line) (e : End) → IsShowing bounds plan observation part at found lines e → ObservationEnds bounds plan observation (run_ending e (text plan lines))
  in_none : (part : Plan) (at : IsHomePart plan observation part) (found : SchedulesFound bounds part) → IsInNone bounds part found (observation_of observation) → ObservationEnds bounds plan observation (none_ending (reach found) (absent_line plan (reach found) observation))
  too_far : (part : Plan) (at : IsHomePart plan observation part) (found : SchedulesFound bounds part) (place : ℕ) → IsTooFar part found.parents place → ObservationEnds bounds plan observation (Unseen too_far_text)

-- over a plan: it doesn't have what the words name; or it has
pub data OrderEnds (bounds : Bounds) (asked : Sought) (plan : Plan) : Ending → Type 0 where
  lacks : (missing : Missing) → observation_sought plan asked ≡ Err missing → OrderEnds bounds asked plan (Refused (missing_text plan asked missing))
  has : (observation : Observation) → observation_sought plan asked ≡ Ok observation → (ending : Ending) → ObservationEnds bounds plan observation ending → OrderEnds bounds asked plan ending
