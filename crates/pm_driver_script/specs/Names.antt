-- The names that scripts give to flags, marks and locks, and the devices that they resume by force (this project's own).
use Rattle.std.specs.Prelude.{ℕ, Bool, List, [], ◌∷◌, ◌++◌, Option, Some, None, is_some, nat_eq, position, if◌then◌else◌}
use Rattle.pm_base.specs.declared.DevId.{DevId}
use Rattle.pm_model.specs.NamedList.{place_named}
use Rattle.pm_driver_script.specs.declared.names.NameKind.{NameKind}
use Rattle.pm_driver_script.specs.declared.names.NameKind.TheVariants as kind
use Rattle.pm_driver_text.specs.declared.steps.ScriptStep.{ScriptStep}
use Rattle.pm_driver_text.specs.declared.whats.StepWhat.{StepWhat}
use Rattle.pm_driver_text.specs.declared.whats.StepWhat.TheVariants as what

-- the name of this kind that a step has
abbrev pub name_of : NameKind → StepWhat → Option (List ℕ)
name_of kind.Flag (what.AskFlag flag) = Some flag
name_of kind.Flag (what.Set flag) = Some flag
name_of kind.Flag (what.Clear flag) = Some flag
name_of kind.Flag (what.Wait flag set) = Some flag
name_of kind.Mark (what.Mark name) = Some name
name_of kind.Lock (what.Lock name) = Some name
name_of kind.Lock (what.Unlock name) = Some name
name_of k w = None

-- names, and one that isn't there yet
abbrev pub with_name : List (List ℕ) → Option (List ℕ) → List (List ℕ)
with_name names None = names
with_name names (Some name) = if is_some (place_named name names) then names else names ++ name ∷ []

-- names, and those of this kind that steps have
abbrev pub names_from : NameKind → List (List ℕ) → List ScriptStep → List (List ℕ)
names_from k names [] = names
names_from k names (step ∷ steps) = names_from k (with_name names (name_of k step.what)) steps

-- the device that a step resumes by force
abbrev pub forced_by : StepWhat → Option DevId
forced_by (what.ForceResume dev) = Some dev
forced_by w = None

abbrev pub is_same_device : DevId → DevId → Bool
is_same_device d other = nat_eq d.0 other.0

-- devices, and one that isn't there yet
abbrev pub with_forced : List DevId → Option DevId → List DevId
with_forced forced None = forced
with_forced forced (Some dev) = if is_some (position (is_same_device dev) forced) then forced else forced ++ dev ∷ []

-- devices, and those that steps resume by force
abbrev pub forced_from : List DevId → List ScriptStep → List DevId
forced_from forced [] = forced
forced_from forced (step ∷ steps) = forced_from (with_forced forced (forced_by step.what)) steps
