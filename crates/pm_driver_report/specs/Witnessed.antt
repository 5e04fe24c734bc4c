-- Runs that show what is told of a driver (this project's own).
use Rattle.std.specs.Prelude.{ℕ, ◌≡◌, ◌<◌, ◌≤◌, ◌-◌, Bool, true, false, List, Option, Some, None, length, reverse, slice_get}
use Rattle.pm_driver_find.specs.Sights.{is_seen}
use Rattle.pm_driver_find.specs.declared.examined.ExaminedDriver.{ExaminedDriver}
use Rattle.pm_driver_orders.specs.DriverSchedules.{driver_preemptions, driver_snapshot}
use Rattle.pm_driver_read.specs.declared.driver.Driver.{Driver}
use Rattle.pm_driver_rules.specs.GoingOn.{driver_of}
use Rattle.pm_driver_runs.specs.OneRun.{IsCollectedRun}
use Rattle.pm_driver_search.specs.Witness.{IsWitness}
use Rattle.pm_lab_words.specs.declared.driver.DriverBounds.{DriverBounds}
use Rattle.pm_model.specs.Lawful.{IsLawful}
use Rattle.pm_model.specs.declared.event.Line.{Line}
use Rattle.pm_model.specs.declared.plan.Plan.{Plan}
use Rattle.pm_driver_report.specs.Follows.{pass_of}
use Rattle.pm_driver_report.specs.Passes.{snapshots_of}
use Rattle.pm_driver_report.specs.Report.{IsSearched, may_be_searched}
use Rattle.pm_driver_report.specs.Rules.{IsExamined}
use Rattle.pm_driver_report.specs.declared.lines.DriverLine.{DriverLine}
use Rattle.pm_driver_report.specs.declared.passes.DriverPass.{DriverPass}
use Rattle.pm_driver_report.specs.declared.searched.DriverSearch.{DriverSearch}
use Rattle.pm_driver_report.specs.declared.witness.DriverWitness.{DriverWitness}
use Rattle.pm_driver_report.specs.declared.witness.DriverWitness.TheVariants as witness
use Rattle.pm_driver_report.specs.declared.witness.WitnessedRun.{WitnessedRun}

-- The lines, the oldest first, are those of a schedule of the driver, which stands where the pass of what is told has it first, and shows it
-- there. No more of its turns preempt than the first complete round allows in which it is.
pub record IsWitnessOf (E : ExaminedDriver) (passes : List DriverPass) (told : DriverLine) (lines : List Line) : Type 0 where
  pub pass : DriverPass
  pub is_pass : pass_of passes told.pace told.allowed ≡ Some pass
  pub schedule : IsWitness pass.pace (driver_of E.rules.now) pass.failures (snapshots_of pass) pass.all.found.tree.parents.items told.place lines
  pub shows : is_seen E (driver_snapshot (driver_of E.rules.now) schedule.turns) told.sight ≡ true
  pub few : (k bound : ℕ) → slice_get pass.all.found.rounds.items k ≡ Some bound → told.place < bound → driver_preemptions (driver_of E.rules.now) schedule.turns ≤ k

-- the lines, and the plan of what they call and answer, which is no more than a plan may have
pub record IsCollectedTo (plan : Plan) (lines : List Line) (made : WitnessedRun) : Type 0 where
  pub lines_are : made.lines.items ≡ lines
  pub short : length made.lines.items ≤ plan.lines
  pub collected : IsCollectedRun plan (reverse made.lines.items) made.run

-- a driver, searched through
pub record Searched (d : Driver) (bounds : DriverBounds) (notes : Bool) : Type 0 where
  pub examined : ExaminedDriver
  pub of_driver : IsExamined d examined
  pub search : DriverSearch
  pub is_searched : IsSearched d examined bounds notes search

-- The finding of this number, from 1, is told of the driver, and a schedule of it with these lines shows it. They are a lawful list of the plan of what
-- is called and answered by them, which the text is read as.
pub record IsWitnessed (d : Driver) (bounds : DriverBounds) (notes : Bool) (number : ℕ) (made : WitnessedRun) : Type 0 where
  pub of : Searched d bounds notes
  pub told : DriverLine
  pub is_told : slice_get of.search.told.items (number - 1) ≡ Some told
  pub shown : IsWitnessOf of.examined of.search.passes.items told made.lines.items
  pub collected : IsCollectedRun of.examined.rules.now.plan.now (reverse made.lines.items) made.run
  pub lawful : IsLawful made.run.plan (reverse made.lines.items)

-- only so many findings are told
pub record AreFewer (d : Driver) (bounds : DriverBounds) (notes : Bool) (number count : ℕ) : Type 0 where
  pub of : Searched d bounds notes
  pub lacks : slice_get of.search.told.items (number - 1) ≡ None
  pub many : count ≡ length of.search.told.items

-- The finding is told, but its run isn't made. That this comes only where it has more lines, calls or codes than a plan may have isn't said.
pub record IsNotMade (d : Driver) (bounds : DriverBounds) (notes : Bool) (number : ℕ) : Type 0 where
  pub of : Searched d bounds notes
  pub told : DriverLine
  pub is_told : slice_get of.search.told.items (number - 1) ≡ Some told

-- what the finding of a number of a driver that was searched through comes to
abbrev pub IsOfSearch : Driver → DriverBounds → Bool → ℕ → DriverWitness → Type 0
IsOfSearch d bounds notes number (witness.Shown made) = IsWitnessed d bounds notes number made
IsOfSearch d bounds notes number (witness.Fewer count) = AreFewer d bounds notes number count
IsOfSearch d bounds notes number witness.TooLong = IsNotMade d bounds notes number
IsOfSearch d bounds notes number witness.Refused = ⊥

-- it isn't gone through, as a plan with lists of codes; or it is
pub data WitnessesDriver (d : Driver) (bounds : DriverBounds) (notes : Bool) (number : ℕ) : DriverWitness → Type 0 where
  not_searched : may_be_searched d ≡ false → WitnessesDriver d bounds notes number witness.Refused
  is_searched : (found : DriverWitness) → may_be_searched d ≡ true → IsOfSearch d bounds notes number found → WitnessesDriver d bounds notes number found
