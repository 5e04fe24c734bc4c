-- What the runs of a plan come to, on one thread and by several (this project's own).
use Rattle.std.specs.Prelude.{◌≡◌, ℕ, Bool, true, false, List, Ok, Err, reverse}
use Rattle.pm_model.specs.declared.event.Line.{Line}
use Rattle.pm_model.specs.declared.plan.Plan.{Plan}
use Rattle.pm_model.specs.FirstBad.{AreLinesOf}
use Rattle.pm_model.specs.Lawful.{IsFinished, IsLawful}
use Rattle.pm_model.specs.Serial.{serial}
use Rattle.pm_model.specs.Text.{text}
use Rattle.pm_serial.specs.declared.running.End.{End}
use Rattle.pm_serial.specs.declared.running.End.TheVariants as end
use Rattle.pm_serial.specs.Ends.{IsSerialEnd}
use Rattle.pm_cmd_ends.specs.Coming.{Work}
use Rattle.pm_cmd_ends.specs.Ending.{AtLimit, Done, Ending}
use Rattle.pm_cmd_ends.specs.Promised.{KeepsPromises}
use Rattle.pm_cmd_ends.specs.declared.ending.Fault.TheVariants as fault

-- the run that one thread makes of a plan is lawful, each line of it has a text, it keeps its promises, and ends so
pub record IsRun (plan : Plan) (e : End) : Type 0 where
  pub lawful : IsLawful plan (reverse (serial plan))
  pub of_plan : AreLinesOf plan (reverse (serial plan))
  pub promises : KeepsPromises plan (reverse (serial plan))
  pub ends : IsSerialEnd plan e

-- lines, in order, are a run of the plan that is lawful, of which each line has a text, that keeps its promises and is
-- finished
pub record IsWholeRun (plan : Plan) (lines : List Line) : Type 0 where
  pub lawful : IsLawful plan (reverse lines)
  pub of_plan : AreLinesOf plan (reverse lines)
  pub promises : KeepsPromises plan (reverse lines)
  pub finished : IsFinished plan (reverse lines)

-- the ending of a run that ends so, with this text
abbrev pub run_ending : End → List ℕ → Ending
run_ending end.Finished bytes = Done bytes
run_ending end.AtLimit bytes = AtLimit bytes

-- the work of a command whose run ended so, and was written
abbrev pub ended : End → Work
ended end.Finished = Ok tt
ended end.AtLimit = Err fault.AtLimit

abbrev pub is_whole : End → Bool
is_whole end.Finished = true
is_whole end.AtLimit = false

-- `serial PLAN`: the text of the run that one thread makes
pub record SerialEnds (plan : Plan) (ending : Ending) : Type 0 where
  pub end_of : End
  pub run : IsRun plan end_of
  pub is : ending ≡ run_ending end_of (text plan (serial plan))

-- `run PLAN` and `desk PLAN`: the text of a finished run; or that of the one that one thread makes, which has all the lines that the plan
-- allows and isn't finished
pub data RunEnds (plan : Plan) : Ending → Type 0 where
  whole : (lines : List Line) → IsWholeRun plan lines → RunEnds plan (Done (text plan lines))
  cut : IsRun plan end.AtLimit → RunEnds plan (AtLimit (text plan (serial plan)))
