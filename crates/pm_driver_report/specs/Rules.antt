-- The rules of a driver's schedules, from the driver that was read (this project's own).
use Rattle.std.specs.Prelude.{ℕ, ◌≡◌, Bool, true, false, List, [], ◌∷◌, Option, Some, map, min, option_map, take}
use Rattle.pm_driver_find.specs.declared.examined.CallerOrigin.{CallerOrigin}
use Rattle.pm_driver_find.specs.declared.examined.ExaminedDriver.{ExaminedDriver}
use Rattle.pm_driver_read.specs.declared.driver.CallerNeed.{CallerNeed}
use Rattle.pm_driver_read.specs.declared.driver.Driver.{Driver}
use Rattle.pm_driver_read.specs.declared.driver.DriverCaller.{DriverCaller}
use Rattle.pm_driver_read.specs.declared.driver.Role.{Role}
use Rattle.pm_driver_read.specs.declared.driver.Role.TheVariants as role
use Rattle.pm_driver_rules.specs.declared.rules.BeginNeed.{BeginNeed}
use Rattle.pm_driver_rules.specs.declared.rules.CallerRules.{CallerRules}
use Rattle.pm_driver_script.specs.declared.program.Program.{Program}

-- a place as the rules have it: past 2^32 - 1 there is none, nor at it
abbrev pub short : ℕ → ℕ
short n = min n 4294967295

abbrev pub begin_need : CallerNeed → BeginNeed
begin_need need = record { caller = short need.caller; mark = option_map short need.mark }

-- what the rules have of a caller
pub record CallerPart : Type 0 where
  pub program : Program
  pub after : List BeginNeed

abbrev pub part_read : DriverCaller → CallerPart
part_read caller = record { program = caller.program; after = map begin_need caller.after }

abbrev pub part_of : CallerRules → CallerPart
part_of caller = record { program = caller.program.now; after = caller.after.now }

-- callers with what each needs
abbrev pub parts_by : List DriverCaller → List (List BeginNeed) → List CallerPart
parts_by [] needs = []
parts_by (caller ∷ callers) [] = []
parts_by (caller ∷ callers) (after ∷ needs) = record { program = caller.program; after = after } ∷ parts_by callers needs

-- what else the file says of a caller
pub record OriginPart : Type 0 where
  pub lines : List (Option ℕ)
  pub is_probe : Bool
  pub is_remove : Bool

abbrev pub is_probe_role : Option Role → Bool
is_probe_role (Some role.Probe) = true
is_probe_role _ = false

abbrev pub is_remove_role : Option Role → Bool
is_remove_role (Some role.Remove) = true
is_remove_role _ = false

abbrev pub origin_read : DriverCaller → OriginPart
origin_read caller = record { lines = caller.lines; is_probe = is_probe_role caller.role; is_remove = is_remove_role caller.role }

abbrev pub origin_of : CallerOrigin → OriginPart
origin_of origin = record { lines = origin.lines.now; is_probe = origin.is_probe; is_remove = origin.is_remove }

-- it is the driver that was read: its plan, and the callers of the plan, of which there are at most 16
pub record IsExamined (d : Driver) (E : ExaminedDriver) : Type 0 where
  pub plan : E.rules.now.plan.now ≡ d.plan
  pub callers : map part_of E.rules.now.callers.now ≡ take 16 (map part_read d.callers)
  pub origins : map origin_of E.origins.now ≡ map origin_read d.callers
