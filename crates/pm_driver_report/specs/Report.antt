-- What is reported of a driver's file (this project's own).
use Rattle.std.specs.Prelude.{ℕ, ◌≡◌, ◌≤◌, ◌+◌, ◌-◌, ◌^◌, Bool, true, false, not, ◌&&◌, ◌||◌, List, [], ◌∷◌, ◌++◌, All, codes, filter, length, map, min, nat_eq, if◌then◌else◌}
use Rattle.std.specs.List.{list_all, list_any}
use Rattle.std.specs.Option.{option_map_or}
use Rattle.pm_driver_find.specs.declared.examined.ExaminedDriver.{ExaminedDriver}
use Rattle.pm_driver_read.specs.declared.driver.Driver.{Driver}
use Rattle.pm_find.specs.text.Texts.{weight_word}
use Rattle.pm_lab_words.specs.declared.driver.DriverBounds.{DriverBounds}
use Rattle.pm_messages.specs.located.Told.{token_told}
use Rattle.pm_model.specs.declared.plan.Plan.{Plan}
use Rattle.pm_model.specs.declared.rows.DeviceRow.{DeviceRow}
use Rattle.pm_driver_report.specs.Follows.{AreWeighed}
use Rattle.pm_driver_report.specs.Lines.{all_lines, is_note, is_told}
use Rattle.pm_driver_report.specs.Passes.{ArePassesOf}
use Rattle.pm_driver_report.specs.Rules.{IsExamined}
use Rattle.pm_driver_report.specs.Texts.{last_text, message_text, shown_text}
use Rattle.pm_driver_report.specs.declared.lines.DriverLine.{DriverLine}
use Rattle.pm_driver_report.specs.declared.passes.DriverPass.{DriverPass}
use Rattle.pm_driver_report.specs.declared.report.DriverReport.{DriverReport}
use Rattle.pm_driver_report.specs.declared.report.PlacedLine.{PlacedLine}
use Rattle.pm_driver_report.specs.declared.report.ReportKind.{ReportKind}
use Rattle.pm_driver_report.specs.declared.report.ReportKind.TheVariants as report
use Rattle.pm_driver_report.specs.declared.searched.DriverSearch.{DriverSearch}

-- the callbacks of a device answer codes of lists
abbrev pub has_codes : DeviceRow → Bool
has_codes row = option_map_or (λ idle. not (nat_eq (length idle) 0)) row.idle false || not (nat_eq (length row.suspend) 0) || not (nat_eq (length row.resume) 0)

-- A plan whose callbacks answer codes of lists isn't gone through: there each callback has its own code in turn. An idle callback with codes
-- stands in no driver.
abbrev pub is_quiet_row : DeviceRow → Bool
is_quiet_row row = option_map_or (λ idle. nat_eq (length idle) 0) row.idle true

abbrev pub may_be_searched : Driver → Bool
may_be_searched d = list_all is_quiet_row d.plan.devices && not (d.is_plan && list_any has_codes d.plan.devices)

-- what is told of such a plan
abbrev pub lists_text : List ℕ → List ℕ
lists_text file = file ++ codes ": its callbacks answer lists of codes: `orders` goes through such a plan, and `find` through a trace of it; in a driver file `fails` says what may fail\n"

-- what was gone through of the first pace has no complete round
abbrev pub is_unended : List DriverPass → Bool
is_unended [] = true
is_unended (pass ∷ passes) = nat_eq (length pass.all.found.rounds.items) 0

abbrev pub kind_reported : List DriverPass → List DriverLine → ReportKind
kind_reported passes lines = if not (list_all is_note lines) then report.Found else if is_unended passes then report.AtLimit else report.Clean

-- a line with its token, the line of the file, which finding it is, how it shows first, and the calls that lead there
abbrev pub placed_text : List ℕ → List ℕ → Driver → ℕ → PlacedLine → List ℕ
placed_text file text d number placed =
    token_told file text placed.span.start placed.span.end (weight_word placed.line.weight) (message_text d placed.line) (shown_text number placed.line ∷ placed.way.items ∷ [])

-- these, numbered from this number on as far as numbers go
abbrev pub placed_texts : List ℕ → List ℕ → Driver → ℕ → List PlacedLine → List ℕ
placed_texts file text d number [] = []
placed_texts file text d number (placed ∷ all) = placed_text file text d number placed ++ placed_texts file text d (min (number + 1) (2 ^ 64 - 1)) all

-- The driver's schedules were gone through; what they show, each but once, and as a note where it follows from something else, is told, notes where
-- they are asked for.
pub record IsSearched (d : Driver) (E : ExaminedDriver) (bounds : DriverBounds) (notes : Bool) (search : DriverSearch) : Type 0 where
  pub through : ArePassesOf E bounds search.passes.items
  pub weighed : List DriverLine
  pub are_weighed : AreWeighed d E search.passes.items (all_lines d search.passes.items) weighed
  pub told : search.told.items ≡ filter (is_told notes) weighed

-- Of what was gone through these lines are told, each with a token of the text and its number, from 1; and behind them what was gone through. Which token
-- is shown, and which calls are told to lead there, is left open.
pub record IsReportOf (file text : List ℕ) (d : Driver) (passes : List DriverPass) (lines : List DriverLine) (made : DriverReport) : Type 0 where
  pub placed : List PlacedLine
  pub are : map (λ (p : PlacedLine). p.line) placed ≡ lines
  pub within : All (λ (p : PlacedLine). p.span.end ≤ length text) placed
  pub is : made.text.items ≡ placed_texts file text d 1 placed ++ last_text passes lines
  pub kind : made.kind ≡ kind_reported passes lines

-- the driver was searched through, and what is told of it is the report
pub record IsReport (file text : List ℕ) (d : Driver) (bounds : DriverBounds) (notes : Bool) (made : DriverReport) : Type 0 where
  pub examined : ExaminedDriver
  pub of_driver : IsExamined d examined
  pub search : DriverSearch
  pub searched : IsSearched d examined bounds notes search
  pub told : IsReportOf file text d search.passes.items search.told.items made

-- it is refused, as a plan with lists of codes
pub record IsRefusedPlan (file : List ℕ) (made : DriverReport) : Type 0 where
  pub kind : made.kind ≡ report.Refused
  pub is : made.text.items ≡ lists_text file

pub data ReportsDriver (file text : List ℕ) (d : Driver) (bounds : DriverBounds) (notes : Bool) (made : DriverReport) : Type 0 where
  searched : may_be_searched d ≡ true → IsReport file text d bounds notes made → ReportsDriver file text d bounds notes made
  by_lists : may_be_searched d ≡ false → IsRefusedPlan file made → ReportsDriver file text d bounds notes made
