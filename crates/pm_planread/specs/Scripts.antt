-- The refusal `script`: a command that isn't one over the plan's devices (this project's own). The part is its place in the
-- script.
use Rattle.std.specs.Prelude.{ℕ, Bool, List, Option, is_err, map, option_map}
use Rattle.std.specs.List.{filter_map, list_all}
use Rattle.std.specs.Result.{result_ok}
use Rattle.pm_model.specs.IsPlan.{is_command}
use Rattle.pm_model.specs.declared.event.Command.{Command}
use Rattle.pm_model.specs.declared.rows.CallerRow.{CallerRow}
use Rattle.pm_planread.specs.tree.Places.{first_fault, first_place, place}
use Rattle.pm_planread.specs.declared.tree.place.Place.{Place}
use Rattle.pm_planread.specs.declared.tree.place.Section.TheVariants.{Caller}
use Rattle.pm_planread.specs.declared.tree.raw.RawCaller.{RawCaller}
use Rattle.pm_planread.specs.declared.tree.raw.RawPlan.{RawPlan}
use Rattle.pm_planread.specs.rows.Names.{device_names}
use Rattle.pm_script.specs.Command.{command_of}

abbrev pub is_no_command : List (List ℕ) → List ℕ → Bool
is_no_command devices text = is_err (command_of devices text)

abbrev pub bad_command : List (List ℕ) → ℕ → RawCaller → Option Place
bad_command devices i row = option_map (place Caller i) (first_place (is_no_command devices) 0 row.script)

unfoldable pub script_fault : List (List ℕ) → List RawCaller → Option Place
script_fault devices callers = first_fault (bad_command devices) 0 callers

-- the commands of a script: where there are other texts, the plan is refused
abbrev pub commands_in : List (List ℕ) → List (List ℕ) → List Command
commands_in devices texts = filter_map (λ text. result_ok (command_of devices text)) texts

-- each command of the caller is one over so many devices
abbrev pub are_commands : ℕ → CallerRow → Bool
are_commands devices row = list_all (is_command devices) row.script

abbrev pub caller_row : List (List ℕ) → RawCaller → CallerRow
caller_row devices row = record { name = row.name; script = commands_in devices row.script }

abbrev pub caller_rows : RawPlan → List CallerRow
caller_rows raw = map (caller_row (device_names raw)) raw.callers
