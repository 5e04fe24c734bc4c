-- The plan of a driver (this project's own).
use Rattle.std.specs.Prelude.{ℕ, ◌+◌, Bool, not, ◌&&◌, List, [], ◌∷◌, ◌++◌, Option, Some, None, Result, Ok, Err, length, map, nat_le, slice_get, if◌then◌else◌}
use Rattle.std.specs.List.{list_all}
use Rattle.std.specs.Option.{option_map_or}
use Rattle.pm_model.specs.IsPlan.{is_command}
use Rattle.pm_model.specs.declared.event.Command.{Command}
use Rattle.pm_model.specs.declared.rows.CallerRow.{CallerRow}
use Rattle.toml.specs.Data.{Data}
use Rattle.pm_driver_read.specs.Fails.{flags_from, with_all_fails}
use Rattle.pm_driver_read.specs.Refusals.{refused}
use Rattle.pm_driver_read.specs.declared.reading.LocatedProgram.{LocatedProgram}
use Rattle.pm_driver_read.specs.declared.refusal.DriverFault.{DriverFault}
use Rattle.pm_driver_read.specs.declared.refusal.DriverFault.TheVariants as fault
use Rattle.pm_driver_read.specs.declared.refusal.DriverRefusal.{DriverRefusal}
use Rattle.pm_driver_read.specs.declared.refusal.DriverRefusal.TheVariants as refusal
use Rattle.pm_driver_read.specs.declared.refusal.ProgramWhy.TheVariants as why
use Rattle.pm_driver_script.specs.declared.names.ScriptNames.{ScriptNames}
use Rattle.pm_driver_script.specs.declared.program.ProgramPlace.{ProgramPlace}
use Rattle.pm_planread.specs.PlanOf.{Contents}
use Rattle.pm_planread.specs.declared.refusal.PlanFault.{PlanFault}
use Rattle.pm_planread.specs.declared.refusal.PlanFault.TheVariants as plan_fault
use Rattle.pm_planread.specs.declared.refusal.PlanWhy.TheVariants as plan_why
use Rattle.pm_planread.specs.declared.tree.place.Section.TheVariants as section
use Rattle.pm_planread.specs.declared.tree.raw.RawCaller.{RawCaller}
use Rattle.pm_planread.specs.declared.tree.raw.RawPlan.{RawPlan}

-- callers without their scripts
abbrev pub bare_caller : RawCaller → RawCaller
bare_caller row = record row { script = [] }

abbrev pub bare_callers : List RawCaller → List RawCaller
bare_callers rows = map bare_caller rows

abbrev pub bare_plan : RawPlan → RawPlan
bare_plan raw = record raw { callers = bare_callers raw.callers }

-- and with what may fail, and the flags as devices behind those of the file
abbrev pub flagged_plan : List (Option (List (List ℕ))) → List Data → ScriptNames → RawPlan → RawPlan
flagged_plan said items names raw =
    record raw { devices = with_all_fails said 0 raw.devices ++ flags_from items names.forced 0 names.flags; callers = bare_callers raw.callers }

-- what pm_planread refuses; want of memory is no refusal, and no reading comes to it
abbrev pub of_fault : PlanFault → DriverRefusal
of_fault (plan_fault.Refused why at item part) = refusal.Plan why at item part
of_fault plan_fault.NoMemory = refusal.Plan plan_why.TooLong section.Top 0 0

abbrev pub fault_of : PlanFault → DriverFault
fault_of (plan_fault.Refused why at item part) = fault.Refused (refusal.Plan why at item part)
fault_of plan_fault.NoMemory = fault.NoMemory

abbrev pub of_plan : Result Contents PlanFault → Result Contents DriverRefusal
of_plan (Ok contents) = Ok contents
of_plan (Err f) = Err (of_fault f)

abbrev pub commands_of : List ProgramPlace → List Command
commands_of places = map (λ place. place.command) places

abbrev pub is_place_over : ℕ → ProgramPlace → Bool
is_place_over devices place = is_command devices place.command

-- a program has at most 1,000 places, whose commands are over the plan's devices: no script of a file comes to less
abbrev pub is_program : ℕ → LocatedProgram → Bool
is_program devices p = nat_le (length p.program.places) 1000 && list_all (is_place_over devices) p.program.places

abbrev pub scripts_fault : ℕ → ℕ → List LocatedProgram → Option DriverRefusal
scripts_fault devices caller [] = None
scripts_fault devices caller (p ∷ programs) = if not (is_program devices p) then Some (refused caller 0 why.ManyPlaces) else scripts_fault devices (caller + 1) programs

abbrev pub commands_at : List LocatedProgram → ℕ → List Command
commands_at programs caller = option_map_or (λ (p : LocatedProgram). commands_of p.program.places) (slice_get programs caller) []

-- callers whose scripts are the commands of their programs
abbrev pub callers_with : List LocatedProgram → ℕ → List CallerRow → List CallerRow
callers_with programs caller [] = []
callers_with programs caller (row ∷ rows) = record row { script = commands_at programs caller } ∷ callers_with programs (caller + 1) rows

abbrev pub scripted : List LocatedProgram → Contents → Contents
scripted programs contents = record contents { callers = callers_with programs 0 contents.callers }
