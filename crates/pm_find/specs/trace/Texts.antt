-- The text that is told of a trace (this project's own). Lists of lines have the newest line first.
use Rattle.std.specs.Prelude.{ℕ, ◌≡◌, Bool, not, List, [], ◌∷◌, ◌++◌, codes, decimal, length, reverse, take, if◌then◌else◌}
use Rattle.std.specs.List.{filter, list_any}
use Rattle.pm_cmd_ends.specs.Said.{why_word}
use Rattle.pm_find.specs.findings.AllFound.{all_found}
use Rattle.pm_find.specs.findings.StandsOut.{is_note, weight_of}
use Rattle.pm_find.specs.declared.findings.Finding.{Finding}
use Rattle.pm_find.specs.declared.trace.places.PlanFile.{PlanFile}
use Rattle.pm_find.specs.text.Texts.{count_text, finding_text}
use Rattle.pm_find.specs.trace.PlanPlaces.{IsPlaceOf}
use Rattle.pm_model.specs.declared.event.Line.{Line}
use Rattle.pm_model.specs.History.{History}
use Rattle.pm_model.specs.Lawful.{is_finished}
use Rattle.pm_model.specs.NoWhy.{NoWhy}
use Rattle.pm_model.specs.Spelling.{newline}
use Rattle.pm_model.specs.World.{world}
use Rattle.pm_model.specs.declared.plan.Plan.{Plan}

-- all that stands out in a run of a plan
abbrev pub run_found : Plan → History → List Finding
run_found plan h = all_found plan (is_finished plan (world plan h)) h

-- an error or a warning is among them
abbrev pub has_fault : List Finding → Bool
has_fault all = list_any (λ found. not (is_note (weight_of found.kind))) all

-- those that are told: all of them, or the errors and the warnings
abbrev pub shown : Bool → List Finding → List Finding
shown notes all = if notes then all else filter (λ found. not (is_note (weight_of found.kind))) all

-- how the files are called, and the text of the plan's
pub record Files : Type 0 where
  pub trace : List ℕ
  pub plan : List ℕ
  pub text : List ℕ

abbrev pub files_of : List ℕ → PlanFile → Files
files_of trace file = record { trace = trace; plan = file.name.now; text = file.text.now }

-- a line for each finding, with its place in the plan's file, of a run with these lines
pub data TellsEach (plan : Plan) (lines : List Line) (files : Files) : List Finding → List ℕ → Type 0 where
  nothing : TellsEach plan lines files [] []
  more : (all : List Finding) (text : List ℕ) → TellsEach plan lines files all text → (found : Finding) (place : List ℕ) → IsPlaceOf plan lines files.plan files.text found place
      → TellsEach plan lines files (all ++ found ∷ []) (text ++ finding_text plan files.trace found place)

-- a line for each of the first 200, and how many there are in how many lines
pub record TellsShown (plan : Plan) (lines : List Line) (files : Files) (all : List Finding) (text : List ℕ) : Type 0 where
  pub first : List ℕ
  pub each : TellsEach plan lines files (take 200 all) first
  pub is : text ≡ first ++ count_text (length all) (length lines)

-- what is told of a run of a plan
abbrev pub TellsRun : Plan → History → Files → Bool → List ℕ → Type 0
TellsRun plan h files notes text = TellsShown plan (reverse h) files (shown notes (run_found plan h)) text

-- what is told of a trace whose n-th line is the first bad one, for this reason
abbrev pub unlawful_text : List ℕ → ℕ → NoWhy → List ℕ
unlawful_text file n why = file ++ (codes ":" ++ (decimal n ++ (codes ": not lawful: " ++ (why_word why ++ newline))))
