-- What is looked for at the end of the schedules of a driver (this project's own).
use Rattle.std.specs.Prelude.{ℕ, ◌+◌, Bool, true, false, ◌&&◌, List, [], ◌∷◌, ◌++◌, Option, is_some, nat_eq, slice_get, if◌then◌else◌}
use Rattle.std.specs.List.{list_any}
use Rattle.std.specs.Option.{option_map_or}
use Rattle.pm_base.specs.declared.DevId.{DevId}
use Rattle.pm_model.specs.declared.event.Helper.{Helper}
use Rattle.pm_model.specs.declared.event.Helper.TheVariants as helper
use Rattle.pm_model.specs.declared.rows.DeviceRow.{DeviceRow}
use Rattle.pm_driver_rules.specs.declared.rules.CallerRules.{CallerRules}
use Rattle.pm_driver_script.specs.declared.goals.Goal.{Goal}
use Rattle.pm_driver_script.specs.declared.goals.Goal.TheVariants as goal
use Rattle.pm_driver_script.specs.declared.program.Program.{Program}
use Rattle.pm_driver_script.specs.declared.program.ProgramPlace.{ProgramPlace}
use Rattle.pm_driver_find.specs.declared.ahead.Aim.TheVariants as aim
use Rattle.pm_driver_find.specs.declared.examined.CallerOrigin.{CallerOrigin}
use Rattle.pm_driver_find.specs.declared.examined.ExaminedDriver.{ExaminedDriver}
use Rattle.pm_driver_find.specs.declared.sights.DriverSight.{DriverSight}
use Rattle.pm_driver_find.specs.declared.sights.DriverSight.TheVariants as sight
use Rattle.pm_driver_find.specs.declared.sights.ProbeSetting.{ProbeSetting}
use Rattle.pm_driver_find.specs.declared.sights.ProbeSetting.TheVariants as setting
use Rattle.pm_driver_find.specs.Ahead.{ahead_of, goes_to}
use Rattle.pm_driver_find.specs.Ends.{any_at, callers_of}

-- a step of the program is one of the file, and none of the driver core
abbrev pub is_own : List (Option ℕ) → Goal → Bool
is_own lines (goal.At step part) = option_map_or is_some (slice_get lines step) false
is_own lines _ = false

-- a helper that may take a count
abbrev pub is_taker : Helper → Bool
is_taker helper.GetSync = true
is_taker helper.Get = true
is_taker helper.GetNoresume = true
is_taker helper.GetIfInUse = true
is_taker helper.GetIfActive = true
is_taker _ = false

-- the call of a place may take a count of the device, and from there a return may come before any put of it
abbrev pub takes : List Bool → DevId → ProgramPlace → Bool
takes marks d place = is_taker place.command.helper && nat_eq place.command.dev.0 d.0 && goes_to marks place

-- a caller may hold a count of the device where it has returned
abbrev pub keeps : DevId → Program → Bool
keeps d program = list_any (takes (ahead_of program (aim.KeptReturn d)) d) program.places

abbrev pub is_probe_at : List CallerOrigin → ℕ → Bool
is_probe_at origins c = option_map_or (λ (origin : CallerOrigin). origin.is_probe) (slice_get origins c) false

abbrev pub keeps_at : List CallerOrigin → DevId → ℕ → CallerRules → Bool
keeps_at origins d c caller = is_probe_at origins c && keeps d caller.program.now

-- a probe may
abbrev pub may_keep : ExaminedDriver → DevId → Bool
may_keep E d = any_at (keeps_at E.origins.now d) 0 (callers_of E)

-- a helper that sets a device so
abbrev pub makes : ProbeSetting → Helper → Bool
makes setting.Enabled helper.Enable = true
makes setting.Forbidden helper.Forbid = true
makes setting.Autosuspend helper.UseAutosuspend = true
makes _ _ = false

-- a step of the file sets the device so
abbrev pub sets : ProbeSetting → DevId → List (Option ℕ) → ProgramPlace → Bool
sets which d lines place = makes which place.command.helper && nat_eq place.command.dev.0 d.0 && is_own lines place.standing.goal

abbrev pub sets_at : ProbeSetting → DevId → List CallerOrigin → ℕ → CallerRules → Bool
sets_at which d origins c caller =
    option_map_or (λ (origin : CallerOrigin). origin.is_probe && list_any (sets which d origin.lines.now) caller.program.now.places) (slice_get origins c) false

-- a probe's own step does
abbrev pub sets_up : ExaminedDriver → ProbeSetting → DevId → Bool
sets_up E which d = any_at (sets_at which d E.origins.now) 0 (callers_of E)

abbrev pub left_held : ExaminedDriver → DevId → List DriverSight
left_held E d = sight.LeftOn d ∷ sight.Leaks d (may_keep E d) ∷ []

abbrev pub left_set : ExaminedDriver → DevId → ProbeSetting → List DriverSight
left_set E d which = if sets_up E which d then sight.LeftSet d which ∷ [] else []

-- what is looked for of a device
abbrev pub device_suspects : ExaminedDriver → DevId → List DriverSight
device_suspects E d = left_held E d ++ left_set E d setting.Enabled ++ left_set E d setting.Forbidden ++ left_set E d setting.Autosuspend

-- of devices, counted on from a number
abbrev pub devices_from : ExaminedDriver → ℕ → List DeviceRow → List DriverSight
devices_from E d [] = []
devices_from E d (row ∷ rows) = device_suspects E (record { 0 = d }) ++ devices_from E (d + 1) rows
