-- What `order FILE finding N` may come to (this project's own).
use Rattle.std.specs.Prelude.{ℕ, ◌≡◌, Bool, true, false, List, Option, Ok, Err, reverse}
use Rattle.pm_cmd_lab.specs.ends.Ending.{Done, Ending, Refused, Unseen}
use Rattle.pm_cmd_lab.specs.ends.Reading.{OfFile}
use Rattle.pm_cmd_lab.specs.declared.order.finding.FindingAsked.{FindingAsked}
use Rattle.pm_cmd_lab.specs.order.Order.{run_ending}
use Rattle.pm_driver_read.specs.Drivers.{contents_in, driver_of}
use Rattle.pm_driver_read.specs.declared.driver.Driver.{Driver}
use Rattle.pm_driver_read.specs.declared.refusal.DriverRefusal.{DriverRefusal}
use Rattle.pm_driver_report.specs.Report.{lists_text, may_be_searched}
use Rattle.pm_driver_report.specs.Texts.{no_finding_line, unmade_line}
use Rattle.pm_driver_report.specs.Witnessed.{AreFewer, IsNotMade, IsWitnessed}
use Rattle.pm_driver_report.specs.declared.witness.WitnessedRun.{WitnessedRun}
use Rattle.pm_model.specs.declared.event.Line.{Line}
use Rattle.pm_model.specs.FirstBad.{AreLinesOf}
use Rattle.pm_model.specs.Lawful.{IsLawful}
use Rattle.pm_model.specs.Text.{text}
use Rattle.pm_outcomes.specs.witness.Going.{GoesOnFrom}
use Rattle.pm_say.specs.declared.told.Said.{Said}
use Rattle.pm_say_driver.specs.Told.{SaysFile}
use Rattle.pm_serial.specs.declared.running.End.{End}

-- Lines, in order, are a lawful run of the plan of what a schedule calls and answers, of which each has a text. It begins with the schedule's, from
-- which one thread goes on with it, and ends so.
pub record IsRunOfWitness (made : WitnessedRun) (lines : List Line) (ended : End) : Type 0 where
  pub lawful : IsLawful made.run.plan (reverse lines)
  pub of_plan : AreLinesOf made.run.plan (reverse lines)
  pub goes_on : GoesOnFrom made.run.plan (reverse made.lines.items) (reverse lines) ended

-- of a run that was made: its text, or that of its plan; or its lines come too far from one another for a run
pub data OfWitness (plan : Bool) (made : WitnessedRun) : Ending → Type 0 where
  run : plan ≡ false → (lines : List Line) (ended : End) → IsRunOfWitness made lines ended → OfWitness plan made (run_ending ended (text made.run.plan lines))
  its_plan : plan ≡ true → OfWitness plan made (Done made.run.text.items)
  too_far : plan ≡ false → OfWitness plan made (Unseen unmade_line)

-- of a driver: a schedule of it shows the finding, and its run is made; or fewer are told; or its run isn't made; or it isn't gone through, as a plan with
-- lists of codes
pub data OfFinding (file : List ℕ) (d : Driver) (asked : FindingAsked) : Ending → Type 0 where
  shown : (made : WitnessedRun) → IsWitnessed d asked.bounds asked.notes asked.number made → (ending : Ending) → OfWitness asked.plan made ending → OfFinding file d asked ending
  fewer : (count : ℕ) → AreFewer d asked.bounds asked.notes asked.number count → OfFinding file d asked (Refused (no_finding_line asked.number count))
  not_made : IsNotMade d asked.bounds asked.notes asked.number → OfFinding file d asked (Unseen unmade_line)
  by_lists : may_be_searched d ≡ false → OfFinding file d asked (Refused (lists_text file))

-- over the bytes of the file of this name: they are a driver; or they are refused, and that is told as `say` tells it
pub data FindingEndsOf (file : List ℕ) (asked : FindingAsked) (bytes : List ℕ) : Ending → Type 0 where
  of_driver : (d : Driver) → driver_of bytes ≡ Ok (contents_in d) → (ending : Ending) → OfFinding file d asked ending → FindingEndsOf file asked bytes ending
  no_driver : (r : DriverRefusal) → driver_of bytes ≡ Err r → (said : Said) → SaysFile file bytes said → FindingEndsOf file asked bytes (Refused said.text.items)

abbrev pub FindingEnds : Bool → Option (List ℕ) → List ℕ → FindingAsked → Ending → Type 0
FindingEnds all known file asked = OfFile all known file (λ told. Refused told) (FindingEndsOf file asked)
