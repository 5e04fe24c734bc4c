-- What `find FILE` may come to (this project's own).
use Rattle.std.specs.Prelude.{◌≡◌, ℕ, Bool, Option, List, Ok, Err}
use Rattle.pm_cmd_lab.specs.ends.Ending.{AtLimit, Done, Ending, Found, Refused}
use Rattle.pm_cmd_lab.specs.ends.Reading.{OfFile}
use Rattle.pm_driver_read.specs.Drivers.{contents_in, driver_of}
use Rattle.pm_driver_read.specs.declared.driver.Driver.{Driver}
use Rattle.pm_driver_read.specs.declared.refusal.DriverRefusal.{DriverRefusal}
use Rattle.pm_driver_report.specs.Report.{ReportsDriver}
use Rattle.pm_driver_report.specs.declared.report.DriverReport.{DriverReport}
use Rattle.pm_driver_report.specs.declared.report.ReportKind.{ReportKind}
use Rattle.pm_driver_report.specs.declared.report.ReportKind.TheVariants as report
use Rattle.pm_lab_words.specs.declared.driver.DriverBounds.{DriverBounds}
use Rattle.pm_say.specs.declared.told.Said.{Said}
use Rattle.pm_say_driver.specs.Told.{SaysFile}

-- by what the driver came to
abbrev pub report_ending : ReportKind → List ℕ → Ending
report_ending report.Clean text = Done text
report_ending report.Found text = Found text
report_ending report.AtLimit text = AtLimit text
report_ending report.Refused text = Refused text

abbrev pub ReportEnds : DriverReport → Ending → Type 0
ReportEnds made ending = ending ≡ report_ending made.kind made.text.items

-- over the bytes of the file of this name: they are a driver, and what is wrong in its schedules is reported; or they are refused, and
-- that is told as `say` tells it
pub data DriverEndsOf (file : List ℕ) (bounds : DriverBounds) (notes : Bool) (bytes : List ℕ) : Ending → Type 0 where
  read : (d : Driver) → driver_of bytes ≡ Ok (contents_in d) → (made : DriverReport) → ReportsDriver file bytes d bounds notes made
      → DriverEndsOf file bounds notes bytes (report_ending made.kind made.text.items)
  unread : (r : DriverRefusal) → driver_of bytes ≡ Err r → (said : Said) → SaysFile file bytes said → DriverEndsOf file bounds notes bytes (Refused said.text.items)

abbrev pub DriverEnds : Bool → Option (List ℕ) → List ℕ → DriverBounds → Bool → Ending → Type 0
DriverEnds all known file bounds notes = OfFile all known file (λ told. Refused told) (DriverEndsOf file bounds notes)
