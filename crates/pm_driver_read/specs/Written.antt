-- A script with the driver core's calls and what `devm` undoes written out (this project's own).
use Rattle.std.specs.Prelude.{ℕ, ◌+◌, false, List, [], ◌∷◌, ◌++◌, Option, Some, None, codes, length, map, nat_eq, if◌then◌else◌}
use Rattle.pm_model.specs.declared.event.Helper.TheVariants as helper
use Rattle.pm_driver_read.specs.Core.{before_of, ended, failed_tail, returned_tail, to_failed, to_returned}
use Rattle.pm_driver_read.specs.Managed.{flag_of, is_managed}
use Rattle.pm_driver_read.specs.Straight.{straight_lines}
use Rattle.pm_driver_read.specs.declared.around.Core.{Core}
use Rattle.pm_driver_read.specs.declared.managed.ManagedStep.{ManagedStep}
use Rattle.pm_driver_script.specs.Calls.{call_of}
use Rattle.pm_driver_text.specs.declared.steps.ScriptStep.{ScriptStep}
use Rattle.pm_driver_text.specs.declared.whats.StepWhat.{StepWhat}
use Rattle.pm_driver_text.specs.declared.whats.StepWhat.TheVariants as what

-- a return and a failure go on at the core's calls
abbrev pub redirected_what : StepWhat → StepWhat
redirected_what what.Return = what.Goto to_returned
redirected_what what.Fail = what.Goto to_failed
redirected_what w = w

abbrev pub redirected : ScriptStep → ScriptStep
redirected step = record step { what = redirected_what step.what }

-- where a driver comes by a step that is undone, its flag is set; where the step has exits, coming by it may fail
abbrev pub came : Option (List ℕ) → List ℕ → ScriptStep
came label flag = ended label (what.Set flag)

abbrev pub gained : List ℕ → ScriptStep → List ScriptStep
gained flag step = if nat_eq (length step.exits) 0 then came step.label flag ∷ [] else record step { devm = false; what = what.Do (codes "devm") } ∷ came None flag ∷ []

abbrev pub managed_as : List ℕ → ScriptStep → StepWhat → List ScriptStep
managed_as flag step (what.DevmEnable dev) = came step.label flag ∷ record step { label = None; devm = false; what = what.Call (call_of helper.Enable dev) } ∷ []
managed_as flag step w = gained flag step

-- what is written of a step of a caller
abbrev pub own_step : List ManagedStep → ℕ → ℕ → ScriptStep → List ScriptStep
own_step managed caller number step = if is_managed step then managed_as (flag_of managed caller number) step step.what else redirected step ∷ []

abbrev pub own_steps : List ManagedStep → ℕ → ℕ → List ScriptStep → List ScriptStep
own_steps managed caller number [] = []
own_steps managed caller number (step ∷ steps) = own_step managed caller number step ++ own_steps managed caller (number + 1) steps

abbrev pub around : List ManagedStep → ℕ → Core → List ScriptStep → List ScriptStep
around managed caller core steps = before_of core ++ own_steps managed caller 0 steps ++ returned_tail managed caller core ++ failed_tail managed caller core

abbrev pub written_steps : List ManagedStep → ℕ → Option Core → List ScriptStep → List ScriptStep
written_steps managed caller None steps = steps
written_steps managed caller (Some core) steps = around managed caller core steps

-- the step of the file that each is of; none of the driver core's
abbrev pub core_lines : List ScriptStep → List (Option ℕ)
core_lines steps = map (λ s. None) steps

abbrev pub step_lines : ℕ → List ScriptStep → List (Option ℕ)
step_lines number written = map (λ s. Some number) written

abbrev pub own_lines : List ManagedStep → ℕ → ℕ → List ScriptStep → List (Option ℕ)
own_lines managed caller number [] = []
own_lines managed caller number (step ∷ steps) = step_lines number (own_step managed caller number step) ++ own_lines managed caller (number + 1) steps

abbrev pub around_lines : List ManagedStep → ℕ → Core → List ScriptStep → List (Option ℕ)
around_lines managed caller core steps =
    core_lines (before_of core) ++ own_lines managed caller 0 steps ++ core_lines (returned_tail managed caller core ++ failed_tail managed caller core)

abbrev pub written_lines : List ManagedStep → ℕ → Option Core → List ScriptStep → List (Option ℕ)
written_lines managed caller None steps = straight_lines (length steps)
written_lines managed caller (Some core) steps = around_lines managed caller core steps
