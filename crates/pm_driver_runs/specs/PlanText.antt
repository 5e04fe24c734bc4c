-- The text of a plan, in the format of plans (docs/PLAN-FORMAT.md), as a person writes it: a key that has its default is left
-- out, but for the number of lines, and each command stands on a line of its own (this project's own).
use Rattle.std.specs.Prelude.{ℕ, ◌++◌, Bool, List, [], ◌∷◌, Option, Some, None, ℤ, codes, decimal, nat_eq, if◌then◌else◌}
use Rattle.std.specs.Fmt.{signed_decimal}
use Rattle.pm_base.specs.declared.DevId.{DevId}
use Rattle.pm_base.specs.declared.DomId.{DomId}
use Rattle.pm_model.specs.declared.event.Command.{Command}
use Rattle.pm_model.specs.declared.plan.Plan.{Plan}
use Rattle.pm_model.specs.declared.rows.CallerRow.{CallerRow}
use Rattle.pm_model.specs.declared.rows.DeviceRow.{DeviceRow}
use Rattle.pm_model.specs.declared.rows.DomainRow.{DomainRow}
use Rattle.pm_model.specs.declared.rows.LinkRow.{LinkRow}
use Rattle.pm_model.specs.Spelling.{command_text, device_name, newline}
use Rattle.pm_model.specs.Text.{names_of}
use Rattle.pm_linetext.specs.Appended.{domain_name}

-- the texts of items, one behind another
abbrev pub each_text : {A : Type 0} → (A → List ℕ) → List A → List ℕ
each_text text [] = []
each_text text (x ∷ xs) = text x ++ each_text text xs

-- a key whose value is a name
abbrev pub name_line : List ℕ → List ℕ → List ℕ
name_line key name = key ++ (codes " = \"" ++ (name ++ codes "\"\n"))

-- a key that is set, and none where it isn't
unfoldable pub flag_line : List ℕ → Bool → List ℕ
flag_line key is = if is then key ++ codes " = true\n" else []

abbrev pub number_line : List ℕ → ℕ → List ℕ
number_line key n = key ++ (codes " = " ++ (decimal n ++ newline))

-- a time, and none where it is 0
abbrev pub ms_line : List ℕ → ℕ → List ℕ
ms_line key ms = if nat_eq ms 0 then [] else number_line key ms

abbrev pub later_code : ℤ → List ℕ
later_code code = codes ", " ++ signed_decimal code

abbrev pub code_list : List ℤ → List ℕ
code_list [] = []
code_list (code ∷ more) = signed_decimal code ++ each_text later_code more

-- the codes of a callback
abbrev pub codes_line : List ℕ → List ℤ → List ℕ
codes_line key list = key ++ (codes " = [" ++ (code_list list ++ codes "]\n"))

-- and none where there are none
abbrev pub some_codes_line : List ℕ → List ℤ → List ℕ
some_codes_line key [] = []
some_codes_line key (code ∷ more) = codes_line key (code ∷ more)

abbrev pub idle_line : Option (List ℤ) → List ℕ
idle_line None = []
idle_line (Some list) = codes_line (codes "idle") list

abbrev pub device_line : Plan → List ℕ → Option DevId → List ℕ
device_line plan key None = []
device_line plan key (Some d) = name_line key (device_name (names_of plan) d.0)

abbrev pub domain_line : Plan → List ℕ → Option DomId → List ℕ
domain_line plan key None = []
domain_line plan key (Some o) = name_line key (domain_name plan o)

unfoldable pub domain_section : Plan → DomainRow → List ℕ
domain_section plan row =
    codes "\n[[domain]]\n" ++ (name_line (codes "name") row.name ++ (domain_line plan (codes "parent") row.parent ++ flag_line (codes "always_on") row.always_on))

abbrev pub device_places : Plan → DeviceRow → List ℕ
device_places plan row = name_line (codes "name") row.name ++ (device_line plan (codes "parent") row.parent ++ domain_line plan (codes "domain") row.domain)

abbrev pub device_marks : DeviceRow → List ℕ
device_marks row = flag_line (codes "ignore_children") row.ignore_children ++ (flag_line (codes "no_callbacks") row.no_callbacks ++ flag_line (codes "busy") row.busy)

abbrev pub device_codes : DeviceRow → List ℕ
device_codes row = idle_line row.idle ++ (some_codes_line (codes "suspend") row.suspend ++ some_codes_line (codes "resume") row.resume)

abbrev pub device_times : DeviceRow → List ℕ
device_times row = ms_line (codes "idle_ms") row.idle_ms ++ (ms_line (codes "suspend_ms") row.suspend_ms ++ ms_line (codes "resume_ms") row.resume_ms)

unfoldable pub device_section : Plan → DeviceRow → List ℕ
device_section plan row = codes "\n[[device]]\n" ++ (device_places plan row ++ (device_marks row ++ (device_codes row ++ device_times row)))

abbrev pub runtime_line : Bool → List ℕ
runtime_line is = if is then [] else codes "pm_runtime = false\n"

unfoldable pub link_section : Plan → LinkRow → List ℕ
link_section plan row =
    codes "\n[[link]]\n" ++ (device_line plan (codes "consumer") (Some row.consumer) ++ (device_line plan (codes "supplier") (Some row.supplier)
    ++ (runtime_line row.pm_runtime ++ flag_line (codes "later") row.later)))

abbrev pub command_line : Plan → Command → List ℕ
command_line plan command = codes "  \"" ++ (command_text (names_of plan) command ++ codes "\",\n")

abbrev pub command_lines : Plan → List Command → List ℕ
command_lines plan script = codes "script = [\n" ++ (each_text (command_line plan) script ++ codes "]\n")

-- a script, and none where it has no command
abbrev pub script_lines : Plan → List Command → List ℕ
script_lines plan [] = []
script_lines plan (command ∷ more) = command_lines plan (command ∷ more)

unfoldable pub caller_section : Plan → CallerRow → List ℕ
caller_section plan row = codes "\n[[caller]]\n" ++ (name_line (codes "name") row.name ++ script_lines plan row.script)

-- the trace's format, where it isn't 1
abbrev pub trace_line : ℕ → List ℕ
trace_line trace = if nat_eq trace 1 then [] else number_line (codes "trace") trace

unfoldable pub plan_head : Plan → List ℕ
plan_head plan = number_line (codes "lines") plan.lines ++ trace_line plan.trace

abbrev pub plan_sections : Plan → List ℕ
plan_sections plan =
    each_text (domain_section plan) plan.domains ++ (each_text (device_section plan) plan.devices
    ++ (each_text (link_section plan) plan.links ++ each_text (caller_section plan) plan.callers))

unfoldable pub plan_text : Plan → List ℕ
plan_text plan = plan_head plan ++ plan_sections plan
