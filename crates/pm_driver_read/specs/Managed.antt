-- The `devm` steps of probes (this project's own): each has a flag, which its caller sets where it comes by the step.
use Rattle.std.specs.Prelude.{ℕ, ◌+◌, ◌*◌, Bool, true, false, not, ◌&&◌, ◌||◌, List, [], ◌∷◌, ◌++◌, Option, Some, None, codes, drop, length, map, nat_eq, nat_lt, position, take, unwrap_or, if◌then◌else◌}
use Rattle.std.specs.List.{range_with_len}
use Rattle.std.specs.Option.{option_map_or}
use Rattle.pm_base.specs.declared.DevId.{DevId}
use Rattle.pm_model.specs.declared.event.Helper.TheVariants as helper
use Rattle.pm_driver_read.specs.Refusals.{refused}
use Rattle.pm_driver_read.specs.declared.around.Core.{Core}
use Rattle.pm_driver_read.specs.declared.driver.Role.{Role}
use Rattle.pm_driver_read.specs.declared.driver.Role.TheVariants as role
use Rattle.pm_driver_read.specs.declared.managed.ManagedStep.{ManagedStep}
use Rattle.pm_driver_read.specs.declared.refusal.DriverRefusal.{DriverRefusal}
use Rattle.pm_driver_read.specs.declared.refusal.ProgramWhy.{ProgramWhy}
use Rattle.pm_driver_read.specs.declared.refusal.ProgramWhy.TheVariants as why
use Rattle.pm_driver_read.specs.declared.scripts.CallerSteps.{CallerSteps}
use Rattle.pm_driver_script.specs.Calls.{call_of}
use Rattle.pm_driver_text.specs.declared.steps.ScriptStep.{ScriptStep}
use Rattle.pm_driver_text.specs.declared.whats.StepWhat.{StepWhat}
use Rattle.pm_driver_text.specs.declared.whats.StepWhat.TheVariants as what

-- `devm WHAT` and `devm_enable` are undone where the driver goes
abbrev pub enables : StepWhat → Bool
enables (what.DevmEnable dev) = true
enables w = false

abbrev pub is_managed : ScriptStep → Bool
is_managed step = step.devm || enables step.what

-- what undoes a step: of devm_enable, that its device is disabled and doesn't use autosuspend
abbrev pub undone : StepWhat → List StepWhat
undone (what.DevmEnable dev) = what.Call (call_of helper.DontUseAutosuspend dev) ∷ what.Call (call_of helper.Disable dev) ∷ []
undone w = w ∷ []

-- Devm: a step that is undone stands in the script of no probe that binds a device, or is a jump or an end
abbrev pub is_probe_role : Role → Bool
is_probe_role role.Probe = true
is_probe_role r = false

abbrev pub is_bound_probe : Option Core → Bool
is_bound_probe core = option_map_or (λ (c : Core). is_probe_role c.role) core false

abbrev pub is_jump : StepWhat → Bool
is_jump (what.Goto label) = true
is_jump what.Return = true
is_jump what.Fail = true
is_jump w = false

abbrev pub is_lost_devm : Option Core → ScriptStep → Bool
is_lost_devm core step = is_managed step && (not (is_bound_probe core) || is_jump step.what)

abbrev pub devm_fault : ℕ → List CallerSteps → Option DriverRefusal
devm_fault caller [] = None
devm_fault caller (c ∷ scripts) = option_map_or (λ step. Some (refused caller step why.Devm)) (position (is_lost_devm c.core) c.steps) (devm_fault (caller + 1) scripts)

-- the steps that are undone, in the file's order, each with its caller and the device that this one binds
abbrev pub managed_if : ℕ → DevId → ℕ → ScriptStep → List ManagedStep
managed_if caller dev number step = if is_managed step then record { caller = caller; step = number; dev = dev; what = step.what } ∷ [] else []

abbrev pub managed_from : ℕ → DevId → ℕ → List ScriptStep → List ManagedStep
managed_from caller dev number [] = []
managed_from caller dev number (step ∷ steps) = managed_if caller dev number step ++ managed_from caller dev (number + 1) steps

abbrev pub managed_by : ℕ → CallerSteps → List ManagedStep
managed_by caller c = option_map_or (λ (core : Core). managed_from caller core.dev 0 c.steps) c.core []

abbrev pub all_managed : ℕ → List CallerSteps → List ManagedStep
all_managed caller [] = []
all_managed caller (c ∷ scripts) = managed_by caller c ++ all_managed (caller + 1) scripts

-- ManyDevm: more than 64
abbrev pub few_managed : List ManagedStep → Option ProgramWhy
few_managed managed = if nat_lt 64 (length managed) then Some why.ManyDevm else None

-- the flags of such steps: devm-00, devm-01 and so on
abbrev pub flag_words : List ℕ
flag_words =
    codes "devm-00devm-01devm-02devm-03devm-04devm-05devm-06devm-07devm-08devm-09devm-10devm-11devm-12devm-13devm-14devm-15devm-16devm-17devm-18devm-19devm-20devm-21devm-22devm-23devm-24devm-25devm-26devm-27devm-28devm-29devm-30devm-31devm-32devm-33devm-34devm-35devm-36devm-37devm-38devm-39devm-40devm-41devm-42devm-43devm-44devm-45devm-46devm-47devm-48devm-49devm-50devm-51devm-52devm-53devm-54devm-55devm-56devm-57devm-58devm-59devm-60devm-61devm-62devm-63"

unfoldable pub flag_name : ℕ → List ℕ
flag_name place = take 7 (drop (7 * place) flag_words)

abbrev pub flag_names : ℕ → List (List ℕ)
flag_names count = map flag_name (range_with_len 0 count)

-- and those of the devices that are resumed by force: force-00, force-01 and so on
abbrev pub force_words : List ℕ
force_words =
    codes "force-00force-01force-02force-03force-04force-05force-06force-07force-08force-09force-10force-11force-12force-13force-14force-15force-16force-17force-18force-19force-20force-21force-22force-23force-24force-25force-26force-27force-28force-29force-30force-31force-32force-33force-34force-35force-36force-37force-38force-39force-40force-41force-42force-43force-44force-45force-46force-47force-48force-49force-50force-51force-52force-53force-54force-55force-56force-57force-58force-59force-60force-61force-62force-63"

unfoldable pub force_name : ℕ → List ℕ
force_name place = take 8 (drop (8 * place) force_words)

abbrev pub force_names : ℕ → List (List ℕ)
force_names count = map force_name (range_with_len 0 count)

-- the flag of a step
abbrev pub is_step_of : ℕ → ℕ → ManagedStep → Bool
is_step_of caller step m = nat_eq m.caller caller && nat_eq m.step step

abbrev pub flag_of : List ManagedStep → ℕ → ℕ → List ℕ
flag_of managed caller step = flag_name (unwrap_or (position (is_step_of caller step) managed) 0)

-- which of them a caller undoes where it closes its device: a probe its own, a remove those of the probes of its device
abbrev pub is_undone_as : Role → ℕ → DevId → ManagedStep → Bool
is_undone_as role.Probe caller dev m = nat_eq m.caller caller
is_undone_as role.Remove caller dev m = nat_eq m.dev.0 dev.0
is_undone_as role.Shutdown caller dev m = false
