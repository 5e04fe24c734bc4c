-- Why a script has no program (this project's own): a label that stands twice, a caller that isn't there, a label that isn't there
-- or isn't further on. Whoever reads a file writes its `devm` steps out first.
use Rattle.std.specs.Prelude.{ℕ, ◌+◌, Bool, true, false, List, [], ◌∷◌, Option, Some, None, is_none, option_map, take, if◌then◌else◌}
use Rattle.std.specs.List.{list_any, slice_split}
use Rattle.std.specs.Option.{option_map_or, option_or}
use Rattle.pm_model.specs.NamedList.{place_named}
use Rattle.pm_driver_script.specs.Goals.{has_label}
use Rattle.pm_driver_script.specs.Marks.{is_comma}
use Rattle.pm_driver_script.specs.declared.faults.ScriptRefusal.{ScriptRefusal}
use Rattle.pm_driver_script.specs.declared.faults.ScriptWhy.{ScriptWhy}
use Rattle.pm_driver_script.specs.declared.faults.ScriptWhy.TheVariants as why
use Rattle.pm_driver_script.specs.declared.names.ScriptNames.{ScriptNames}
use Rattle.pm_driver_text.specs.declared.exits.StepExit.{StepExit}
use Rattle.pm_driver_text.specs.declared.steps.ScriptStep.{ScriptStep}
use Rattle.pm_driver_text.specs.declared.whats.StepWhat.{StepWhat}
use Rattle.pm_driver_text.specs.declared.whats.StepWhat.TheVariants as what

-- NoLabel, Behind: no step behind has the label
abbrev pub label_fault : List ScriptStep → List ScriptStep → List ℕ → Option ScriptWhy
label_fault steps behind label =
    if list_any (has_label label) behind then None else if list_any (has_label label) steps then Some why.Behind else Some why.NoLabel

abbrev pub exits_fault : List ScriptStep → List ScriptStep → List StepExit → Option ScriptWhy
exits_fault steps behind [] = None
exits_fault steps behind (exit ∷ exits) = option_or (label_fault steps behind exit.label) (exits_fault steps behind exits)

abbrev pub goto_fault : List ScriptStep → List ScriptStep → StepWhat → Option ScriptWhy
goto_fault steps behind (what.Goto label) = label_fault steps behind label
goto_fault steps behind w = None

-- NoCaller: a caller that is stopped isn't there
abbrev pub lacks_caller : List (List ℕ) → List (List ℕ) → Bool
lacks_caller callers [] = false
lacks_caller callers (name ∷ names) = if is_none (place_named name callers) then true else lacks_caller callers names

abbrev pub what_fault : ScriptNames → StepWhat → Option ScriptWhy
what_fault names (what.Stop callers) = if lacks_caller names.callers (slice_split is_comma callers) then Some why.NoCaller else None
what_fault names w = None

-- Twice: the label stands earlier
abbrev pub is_twice : List ScriptStep → ScriptStep → Bool
is_twice before step = option_map_or (λ label. list_any (has_label label) before) step.label false

abbrev pub step_fault : ScriptNames → List ScriptStep → List ScriptStep → ScriptStep → List ScriptStep → Option ScriptWhy
step_fault names steps before step behind =
    if is_twice before step then Some why.Twice
    else option_or (what_fault names step.what) (option_or (goto_fault steps behind step.what) (exits_fault steps behind step.exits))

-- the first refusal of steps that are counted on from a number
abbrev pub refused_at : ℕ → ScriptWhy → ScriptRefusal
refused_at number w = record { step = number; why = w }

abbrev pub fault_from : ScriptNames → List ScriptStep → ℕ → List ScriptStep → Option ScriptRefusal
fault_from names steps number [] = None
fault_from names steps number (step ∷ behind) =
    option_or (option_map (refused_at number) (step_fault names steps (take number steps) step behind)) (fault_from names steps (number + 1) behind)

abbrev pub script_fault : ScriptNames → List ScriptStep → Option ScriptRefusal
script_fault names steps = fault_from names steps 0 steps
