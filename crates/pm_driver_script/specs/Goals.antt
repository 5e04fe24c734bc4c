-- Where a script goes on: at the next step, or at a label further on, with jumps followed (this project's own).
use Rattle.std.specs.Prelude.{ℕ, ◌+◌, Bool, true, false, List, [], ◌∷◌, Option, Some, None, unwrap_or, if◌then◌else◌}
use Rattle.std.specs.Option.{option_map_or}
use Rattle.std.specs.Str.{bytes_eq}
use Rattle.pm_driver_script.specs.declared.goals.Goal.{Goal}
use Rattle.pm_driver_script.specs.declared.goals.Goal.TheVariants as goal
use Rattle.pm_driver_text.specs.declared.steps.ScriptStep.{ScriptStep}
use Rattle.pm_driver_text.specs.declared.whats.StepWhat.{StepWhat}
use Rattle.pm_driver_text.specs.declared.whats.StepWhat.TheVariants as what

abbrev pub has_label : List ℕ → ScriptStep → Bool
has_label label step = option_map_or (λ own. bytes_eq own label) step.label false

-- a step is looked for: the first with a label, or any
abbrev pub is_here : Option (List ℕ) → ScriptStep → Bool
is_here None step = true
is_here (Some label) step = has_label label step

-- where a caller stands that has come to a step; nowhere yet at a jump
abbrev pub goal_of_step : StepWhat → ℕ → Option Goal
goal_of_step (what.Goto label) at = None
goal_of_step what.Return at = Some goal.Returned
goal_of_step what.Fail at = Some goal.Failed
goal_of_step w at = Some (goal.At at 0)

abbrev pub goto_label : StepWhat → Option (List ℕ)
goto_label (what.Goto label) = Some label
goto_label w = None

abbrev pub stop_at : Option (List ℕ) → ScriptStep → ℕ → Option Goal
stop_at want step at = if is_here want step then goal_of_step step.what at else None

-- what is looked for behind a step
abbrev pub wanted : Option (List ℕ) → ScriptStep → Option (List ℕ)
wanted want step = if is_here want step then goto_label step.what else want

-- where a caller goes on that looks for a label, or for the next step, in steps that are counted on from a number; behind the
-- last step it has returned
abbrev pub goal_from : Option (List ℕ) → List ScriptStep → ℕ → Goal
goal_from want [] at = goal.Returned
goal_from want (step ∷ steps) at = unwrap_or (stop_at want step at) (goal_from (wanted want step) steps (at + 1))
