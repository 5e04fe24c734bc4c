-- What is reported, put together.
use Rattle.std.proofs.Common.{ℕ, suc, arith, ◌≡◌, ◌≤◌, Bool, true, false, List, ◌∷◌, ◌++◌, All, IfOk, Result, Ok, Err, filter, length, map, subst}
use Rattle.pm_base.specs.declared.errors.NoMemory.{NoMemory}
use Rattle.pm_driver_find.specs.declared.examined.ExaminedDriver.{ExaminedDriver}
use Rattle.pm_driver_read.specs.declared.driver.Driver.{Driver}
use Rattle.pm_lab_words.specs.declared.driver.DriverBounds.{DriverBounds}
use Rattle.pm_driver_report.specs.Follows.{AreWeighed}
use Rattle.pm_driver_report.specs.Lines.{all_lines, is_told}
use Rattle.pm_driver_report.specs.Passes.{ArePassesOf}
use Rattle.pm_driver_report.specs.Report.{IsReport, IsReportOf, IsRefusedPlan, IsSearched, ReportsDriver, kind_reported, may_be_searched, placed_texts, by_lists, searched}
use Rattle.pm_driver_report.specs.Rules.{IsExamined}
use Rattle.pm_driver_report.specs.Texts.{last_text}
use Rattle.pm_driver_report.specs.declared.lines.DriverLine.{DriverLine}
use Rattle.pm_driver_report.specs.declared.passes.DriverPass.{DriverPass}
use Rattle.pm_driver_report.specs.declared.report.DriverReport.{DriverReport}
use Rattle.pm_driver_report.specs.declared.report.PlacedLine.{PlacedLine}
use Rattle.pm_driver_report.specs.declared.searched.DriverSearch.{DriverSearch}

-- what holds of all holds behind the first
pub all_in : {A : Type 0} (P : A → Type 0) (x : A) (xs all : List A) → all ≡ x ∷ xs → All P all → P x × All P xs
all_in P x xs all is holds =
    let both : All P (x ∷ xs) = subst (All P) is holds in
    (both 0 x (omega arith), λ k d lt. both (suc k) d (omega (arith, lt)))

pub is_report_of : (file text : List ℕ) (d : Driver) (passes : List DriverPass) (lines : List DriverLine) (placed : List PlacedLine) (made : DriverReport)
    → map (λ (p : PlacedLine). p.line) placed ≡ lines → All (λ (p : PlacedLine). p.span.end ≤ length text) placed
    → made.text.items ≡ placed_texts file text d 1 placed ++ last_text passes lines → made.kind ≡ kind_reported passes lines
    → IsReportOf file text d passes lines made
is_report_of file text d passes lines placed made are within is kind = record { placed = placed; are = are; within = within; is = is; kind = kind }

pub is_searched : (d : Driver) (E : ExaminedDriver) (bounds : DriverBounds) (notes : Bool) (lines weighed : List DriverLine) (search : DriverSearch)
    → ArePassesOf E bounds search.passes.items → lines ≡ all_lines d search.passes.items → AreWeighed d E search.passes.items lines weighed → search.told.items ≡ filter (is_told notes) weighed → IsSearched d E bounds notes search
is_searched d E bounds notes lines weighed search through are weighs told = record {
  through = through;
  weighed = weighed;
  are_weighed = subst (λ (l : List DriverLine). AreWeighed d E search.passes.items l weighed) are weighs;
  told = told;
}

pub is_report : (file text : List ℕ) (d : Driver) (bounds : DriverBounds) (notes : Bool) (E : ExaminedDriver) (search : DriverSearch) (work : Result DriverReport NoMemory)
    → IsExamined d E → IsSearched d E bounds notes search → IfOk work (IsReportOf file text d search.passes.items search.told.items) → IfOk work (IsReport file text d bounds notes)
is_report file text d bounds notes E search (Ok made) is through reports = record { examined = E; of_driver = is; search = search; searched = through; told = reports }
is_report file text d bounds notes E search (Err e) is through reports = tt

pub reports_lists : (file text : List ℕ) (d : Driver) (bounds : DriverBounds) (notes : Bool) (made : DriverReport) → may_be_searched d ≡ false → IsRefusedPlan file made
    → ReportsDriver file text d bounds notes made
reports_lists file text d bounds notes made isnt told = by_lists isnt told

pub reports_searched : (file text : List ℕ) (d : Driver) (bounds : DriverBounds) (notes : Bool) (work : Result DriverReport NoMemory)
    → may_be_searched d ≡ true → IfOk work (IsReport file text d bounds notes) → IfOk work (ReportsDriver file text d bounds notes)
reports_searched file text d bounds notes (Ok made) may is = searched may is
reports_searched file text d bounds notes (Err e) may is = tt
