-- What `find FILE` comes to.
use Rattle.std.proofs.Common.{◌≡◌, ◌∙◌, ℕ, Bool, List, Option, Ok, Err, ap, subst, sym}
use Rattle.pm_cmd_ends.specs.Ending.{Taking, TookNothing}
use Rattle.pm_cmd_ends.specs.Reading.{Holds}
use Rattle.pm_cmd_lab.specs.ends.Coming.{Came, IsUnheld, Work, Writes, ending_of}
use Rattle.pm_cmd_lab.specs.ends.Ending.{Ending, Refused}
use Rattle.pm_cmd_lab.specs.ends.Reading.{held, too_long}
use Rattle.pm_cmd_lab.specs.declared.ends.ending.Fault.{Fault}
use Rattle.pm_cmd_lab.specs.declared.ends.ending.Fault.TheVariants as fault
use Rattle.pm_cmd_lab.specs.declared.ends.ending.Outcome.{Outcome}
use Rattle.pm_cmd_lab.specs.find.Driver.{DriverEnds, DriverEndsOf, ReportEnds, read, report_ending, unread}
use Rattle.pm_cmd_lab.proofs.ends.EndLemmas.{came_weaker}
use Rattle.pm_driver_read.specs.Drivers.{contents_in, driver_of}
use Rattle.pm_driver_read.specs.declared.driver.Driver.{Driver}
use Rattle.pm_driver_read.specs.declared.refusal.DriverRefusal.{DriverRefusal}
use Rattle.pm_driver_report.specs.Report.{ReportsDriver}
use Rattle.pm_driver_report.specs.declared.report.DriverReport.{DriverReport}
use Rattle.pm_driver_report.specs.declared.report.ReportKind.{ReportKind}
use Rattle.pm_lab_words.specs.declared.driver.DriverBounds.{DriverBounds}
use Rattle.pm_say.specs.declared.told.Said.{Said}
use Rattle.pm_say_driver.specs.Told.{SaysFile}

-- a file whose bytes aren't read whole, before anything is written
pub driver_unheld : (all : Bool) (known : Option (List ℕ)) (file : List ℕ) (bounds : DriverBounds) (notes : Bool) (Unread : Type 0) (out : Taking) (f : Fault) → IsUnheld all known file Unread f → TookNothing out
    → Came (DriverEnds all known file bounds notes) (Err f) Unread out
driver_unheld all known file bounds notes Unread out (fault.Refused text) unheld nothing = (too_long unheld.0 text.items unheld.1, nothing)
driver_unheld all known file bounds notes Unread out fault.ReadFailed unheld nothing = (unheld, nothing)
driver_unheld all known file bounds notes Unread out fault.WriteFailed unheld nothing = absurd unheld
driver_unheld all known file bounds notes Unread out fault.NoMemory unheld nothing = nothing

-- the work over its bytes, which were handed on
pub driver_held : (all : Bool) (known : Option (List ℕ)) (file bytes handed : List ℕ) (bounds : DriverBounds) (notes : Bool) (Unread : Type 0) (out : Taking) (work : Work) → Holds all known 1048576 bytes
    → handed ≡ bytes → Came (DriverEndsOf file bounds notes handed) work ⊥ out → Came (DriverEnds all known file bounds notes) work Unread out
driver_held all known file bytes handed bounds notes Unread out work holds same came =
    came_weaker (DriverEndsOf file bounds notes handed) (DriverEnds all known file bounds notes) ⊥ Unread
    (λ ending ends. held bytes holds ending (subst (λ (x : List ℕ). DriverEndsOf file bounds notes x ending) same ends)) (λ none. absurd none) out work came

-- the report of a driver that was read, written
pub driver_reported : (file handed_file bytes : List ℕ) (bounds : DriverBounds) (notes : Bool) (d : Driver) (made : DriverReport) (out : Taking) (work : Work) → driver_of bytes ≡ Ok (contents_in d)
    → ReportsDriver handed_file bytes d bounds notes made → handed_file ≡ file → Came (ReportEnds made) work ⊥ out → Came (DriverEndsOf file bounds notes bytes) work ⊥ out
driver_reported file handed_file bytes bounds notes d made out work is_read reports same came =
    came_weaker (ReportEnds made) (DriverEndsOf file bounds notes bytes) ⊥ ⊥
    (λ ending is. subst (λ (e : Ending). DriverEndsOf file bounds notes bytes e) (sym is) (read d is_read made (subst (λ (name : List ℕ). ReportsDriver name bytes d bounds notes made) same reports)))
    (λ none. none) out work came

-- a driver that is refused
pub driver_refused : (file handed_file bytes : List ℕ) (bounds : DriverBounds) (notes : Bool) (r : DriverRefusal) (said : Said) → driver_of bytes ≡ Err r → SaysFile handed_file bytes said → handed_file ≡ file
    → DriverEndsOf file bounds notes bytes (Refused said.text.items)
driver_refused file handed_file bytes bounds notes r said is_refused says same = unread r is_refused said (subst (λ (name : List ℕ). SaysFile name bytes said) same says)

-- a report's text, written
pub report_written : (made : DriverReport) (kind : ReportKind) (told : Outcome) (piece : List ℕ) (out : Taking) (work : Work) → ((x : List ℕ) → ending_of told x ≡ report_ending kind x) → made.kind ≡ kind
    → piece ≡ made.text.items → Came (Writes told piece) work ⊥ out → Came (ReportEnds made) work ⊥ out
report_written made kind told piece out work fits is_kind same came =
    came_weaker (Writes told piece) (ReportEnds made) ⊥ ⊥
    (λ ending is. is ∙ (ap (λ (x : List ℕ). ending_of told x) same ∙ (fits made.text.items ∙ sym (ap (λ (k : ReportKind). report_ending k made.text.items) is_kind)))) (λ none. none) out work came
