-- The programs of a driver's callers, or the first refusal of their scripts (this project's own).
use Rattle.std.specs.Prelude.{ℕ, ◌+◌, ◌-◌, ◌<◌, ◌≤◌, ◌^◌, List, [], ◌∷◌, ◌++◌, Option, Some, None, Result, Ok, Err, length, map, nat_lt, option_map, if◌then◌else◌}
use Rattle.std.specs.Option.{option_or}
use Rattle.pm_base.specs.declared.DevId.{DevId}
use Rattle.pm_model.specs.declared.rows.DeviceRow.{DeviceRow}
use Rattle.pm_model.specs.declared.rows.LinkRow.{LinkRow}
use Rattle.pm_driver_read.specs.Keys.{core_of, turns_of}
use Rattle.pm_driver_read.specs.Core.{core_suppliers}
use Rattle.pm_driver_read.specs.Managed.{all_managed, flag_names, force_names}
use Rattle.pm_driver_read.specs.Refusals.{refused}
use Rattle.pm_driver_read.specs.Written.{written_lines, written_steps}
use Rattle.pm_driver_read.specs.declared.managed.ManagedStep.{ManagedStep}
use Rattle.pm_driver_read.specs.declared.reading.LocatedProgram.{LocatedProgram}
use Rattle.pm_driver_read.specs.declared.refusal.DriverRefusal.{DriverRefusal}
use Rattle.pm_driver_read.specs.declared.refusal.ProgramWhy.{ProgramWhy}
use Rattle.pm_driver_read.specs.declared.refusal.ProgramWhy.TheVariants as why
use Rattle.pm_driver_read.specs.declared.scripts.CallerSteps.{CallerSteps}
use Rattle.pm_driver_read.specs.declared.words.CallerWords.{CallerWords}
use Rattle.pm_driver_script.specs.Faults.{script_fault}
use Rattle.pm_driver_script.specs.Fits.{HasFewExits}
use Rattle.pm_driver_script.specs.Names.{forced_from, names_from}
use Rattle.pm_driver_script.specs.Programs.{program_of}
use Rattle.pm_driver_script.specs.declared.faults.ScriptRefusal.{ScriptRefusal}
use Rattle.pm_driver_script.specs.declared.names.NameKind.{NameKind}
use Rattle.pm_driver_script.specs.declared.names.NameKind.TheVariants as kind
use Rattle.pm_driver_script.specs.declared.names.ScriptNames.{ScriptNames}
use Rattle.pm_driver_script.specs.declared.program.Program.{Program}
use Rattle.pm_driver_text.specs.Results.{◌>>=◌}
use Rattle.pm_driver_text.specs.Steps.{step_of}
use Rattle.pm_driver_text.specs.declared.fault.StepFault.{StepFault}
use Rattle.pm_driver_text.specs.declared.steps.ScriptStep.{ScriptStep}

-- the place of a step that is none
abbrev pub located : ℕ → ℕ → Result ScriptStep StepFault → Result ScriptStep DriverRefusal
located caller step (Ok made) = Ok made
located caller step (Err fault) = Err (refused caller step (why.Step fault))

-- the steps of a caller's strings, the first of which has this number
abbrev pub steps_from : List (List ℕ) → ℕ → ℕ → List (List ℕ) → Result (List ScriptStep) DriverRefusal
steps_from devices caller number [] = Ok []
steps_from devices caller number (text ∷ texts) =
    located caller number (step_of devices text) >>= λ step. steps_from devices caller (number + 1) texts >>= λ more. Ok (step ∷ more)

abbrev pub caller_steps : List DeviceRow → List LinkRow → ℕ → CallerWords → Result CallerSteps DriverRefusal
caller_steps devices links caller words =
    steps_from (map (λ row. row.name) devices) caller 0 words.script >>= λ steps.
    Ok (record { name = words.name; steps = steps; turns = turns_of words.times; core = core_of devices links words })

-- the steps of callers, the first of which has this number
abbrev pub scripts_from : List DeviceRow → List LinkRow → ℕ → List CallerWords → Result (List CallerSteps) DriverRefusal
scripts_from devices links caller [] = Ok []
scripts_from devices links caller (words ∷ callers) =
    caller_steps devices links caller words >>= λ made. scripts_from devices links (caller + 1) callers >>= λ more. Ok (made ∷ more)

-- the names of a kind in all scripts, behind others
abbrev pub collected : NameKind → List (List ℕ) → List CallerSteps → List (List ℕ)
collected k names [] = names
collected k names (c ∷ scripts) = collected k (names_from k names c.steps) scripts

-- the devices that all scripts resume by force, behind others
abbrev pub all_forced : List DevId → List CallerSteps → List DevId
all_forced forced [] = forced
all_forced forced (c ∷ scripts) = all_forced (forced_from forced c.steps) scripts

-- ManyForced: more than 64
abbrev pub few_forced : List DevId → Option ProgramWhy
few_forced forced = if nat_lt 64 (length forced) then Some why.ManyForced else None

-- flags are those of devices that are resumed by force, those of the file, and those of steps that are undone
abbrev pub names_of : ℕ → List CallerSteps → ScriptNames
names_of devices scripts = record {
  devices = devices;
  forced = all_forced [] scripts;
  flags = force_names (length (all_forced [] scripts)) ++ collected kind.Flag [] scripts ++ flag_names (length (all_managed 0 scripts));
  marks = collected kind.Mark [] scripts;
  locks = collected kind.Lock [] scripts;
  callers = map (λ c. c.name) scripts;
}

-- ManyFlags, ManyMarks, ManyLocks
abbrev pub few_names : ScriptNames → Option ProgramWhy
few_names names =
    if nat_lt (1024 - names.devices) (length names.flags) then Some why.ManyFlags
    else if nat_lt 64 (length names.marks) then Some why.ManyMarks
    else if nat_lt 64 (length names.locks) then Some why.ManyLocks
    else None

-- the first script that is refused
abbrev pub refused_in : ℕ → ScriptRefusal → DriverRefusal
refused_in caller r = refused caller r.step (why.Script r.why)

abbrev pub fault_from : ScriptNames → ℕ → List CallerSteps → Option DriverRefusal
fault_from names caller [] = None
fault_from names caller (c ∷ scripts) = option_or (option_map (refused_in caller) (script_fault names c.steps)) (fault_from names (caller + 1) scripts)

-- the program of a script as it is written out
abbrev pub located_program : List ManagedStep → ℕ → CallerSteps → Program → LocatedProgram
located_program managed caller c program = record { program = program; lines = written_lines managed caller c.core c.steps }

abbrev pub made_or : ℕ → Option Program → Result Program DriverRefusal
made_or caller (Some program) = Ok program
made_or caller None = Err (refused caller 0 why.ManyPlaces)

abbrev pub program_or : ScriptNames → List ManagedStep → ℕ → CallerSteps → Result LocatedProgram DriverRefusal
program_or names managed caller c =
    made_or caller (program_of (written_steps managed caller c.core c.steps) names c.turns) >>= λ program. Ok (located_program managed caller c program)

-- of callers, the first of which has this number
abbrev pub programs_from : ScriptNames → List ManagedStep → ℕ → List CallerSteps → Result (List LocatedProgram) DriverRefusal
programs_from names managed caller [] = Ok []
programs_from names managed caller (c ∷ scripts) =
    program_or names managed caller c >>= λ program. programs_from names managed (caller + 1) scripts >>= λ more. Ok (program ∷ more)

-- scripts that aren't too long, and whose steps don't have too many exits
pub record AreFewSteps (c : CallerSteps) : Type 0 where
  pub steps : length c.steps ≤ 1000
  pub exits : HasFewExits c.steps
  pub suppliers : core_suppliers c.core ≤ 1024
