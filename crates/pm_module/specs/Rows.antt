-- The rows of the tables of a module, one for each row of the plan (this project's own). A name needs no escape: it has letters,
-- digits, _, -, . and : alone.
use Rattle.std.specs.Prelude.{ℕ, Bool, Option, Some, None, List, [], ◌++◌, ℤ, codes, decimal, is_some, if◌then◌else◌}
use Rattle.std.specs.Fmt.{signed_decimal}
use Rattle.std.specs.List.{flat_map}
use Rattle.pm_base.specs.declared.DevId.{DevId}
use Rattle.pm_base.specs.declared.DomId.{DomId}
use Rattle.pm_model.specs.declared.event.Command.{Command}
use Rattle.pm_model.specs.declared.rows.CallerRow.{CallerRow}
use Rattle.pm_model.specs.declared.rows.DeviceRow.{DeviceRow}
use Rattle.pm_model.specs.declared.rows.DomainRow.{DomainRow}
use Rattle.pm_model.specs.declared.rows.LinkRow.{LinkRow}
use Rattle.pm_model.specs.Spelling.{Names, command_text, helper_word}
use Rattle.pm_linetext.specs.Appended.{call_text}

-- a text of C
abbrev pub quoted : List ℕ → List ℕ
quoted bytes = codes "\"" ++ bytes ++ codes "\""

abbrev pub truth : Bool → List ℕ
truth b = if b then codes "true" else codes "false"

-- the place of a device or of a domain in its table, or -1 where there is none
abbrev pub device_place : Option DevId → List ℕ
device_place (Some d) = decimal d.0
device_place None = codes "-1"

abbrev pub domain_place : Option DomId → List ℕ
domain_place (Some d) = decimal d.0
domain_place None = codes "-1"

abbrev pub domain_row : DomainRow → List ℕ
domain_row row =
    codes "\t{ .name = " ++ quoted row.name ++ codes ", .parent = " ++ domain_place row.parent
    ++ codes ", .always_on = " ++ truth row.always_on ++ codes " },\n"

-- a code that a callback answers, with what parts it from the next
abbrev pub code_item : ℤ → List ℕ
code_item code = signed_decimal code ++ codes ", "

-- how long a callback takes, and its codes in turn
abbrev pub callback_text : ℕ → List ℤ → List ℕ
callback_text ms answers =
    codes "{ .ms = " ++ decimal ms ++ codes ", .codes = (const int[]){ " ++ flat_map code_item answers ++ codes "LAB_NO_MORE } }"

-- a device without an idle callback has no codes of it
abbrev pub idle_codes : Option (List ℤ) → List ℤ
idle_codes (Some answers) = answers
idle_codes None = []

-- a line of a row, with a field and its value
abbrev pub field_start : List ℕ → List ℕ
field_start name = codes "\t\t." ++ name ++ codes " = "

abbrev pub field_line : List ℕ → List ℕ → List ℕ
field_line name value = field_start name ++ value ++ codes ",\n"

-- what a device is and where it stands
abbrev pub device_ends : DeviceRow → List ℕ
device_ends row =
    field_line (codes "name") (quoted row.name)
    ++ field_line (codes "parent") (device_place row.parent)
    ++ field_line (codes "domain") (domain_place row.domain)

abbrev pub device_flags : DeviceRow → List ℕ
device_flags row =
    field_line (codes "ignore_children") (truth row.ignore_children)
    ++ field_line (codes "no_callbacks") (truth row.no_callbacks)
    ++ field_line (codes "marks_busy") (truth row.busy)
    ++ field_line (codes "has_idle") (truth (is_some row.idle))

abbrev pub device_callbacks : DeviceRow → List ℕ
device_callbacks row =
    field_line (codes "idle") (callback_text row.idle_ms (idle_codes row.idle))
    ++ field_line (codes "suspend") (callback_text row.suspend_ms row.suspend)
    ++ field_line (codes "resume") (callback_text row.resume_ms row.resume)

abbrev pub device_row : DeviceRow → List ℕ
device_row row = codes "\t{\n" ++ device_ends row ++ device_flags row ++ device_callbacks row ++ codes "\t},\n"

abbrev pub link_row : LinkRow → List ℕ
link_row row =
    codes "\t{ .consumer = " ++ decimal row.consumer.0 ++ codes ", .supplier = " ++ decimal row.supplier.0
    ++ codes ", .pm_runtime = " ++ truth row.pm_runtime ++ codes ", .later = " ++ truth row.later ++ codes " },\n"

-- what a command's return is told with, before its code
abbrev pub return_text : Names → Command → List ℕ
return_text names command = call_text names command.helper command.dev

-- its helper, its device and its number
abbrev pub called_text : Command → List ℕ
called_text command = helper_word command.helper ++ codes ", " ++ decimal command.dev.0 ++ codes ", " ++ signed_decimal command.number

abbrev pub command_row : Names → Command → List ℕ
command_row names command =
    codes "\t\t\t{ LAB_" ++ called_text command
    ++ codes ", " ++ quoted (command_text names command) ++ codes ", " ++ quoted (return_text names command) ++ codes " },\n"

abbrev pub caller_row : Names → CallerRow → List ℕ
caller_row names row =
    codes "\t{\n" ++ field_line (codes "name") (quoted row.name)
    ++ codes "\t\t.script = (const struct lab_command[]){\n" ++ flat_map (command_row names) row.script
    ++ codes "\t\t\t{ }\n\t\t},\n\t},\n"
