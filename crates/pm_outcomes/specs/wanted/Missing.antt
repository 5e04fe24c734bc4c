-- The line that names what of the words a plan doesn't have (this project's own).
use Rattle.std.specs.Prelude.{ℕ, List, [], ◌∷◌, ◌++◌, codes, decimal, length, nat_le, slice_get, take, if◌then◌else◌}
use Rattle.std.specs.List.{flat_map}
use Rattle.std.specs.Option.{option_map_or}
use Rattle.pm_outcomes.specs.declared.wanted.sought.Missing.{Missing}
use Rattle.pm_outcomes.specs.declared.wanted.sought.Missing.TheVariants as missing
use Rattle.pm_lab_words.specs.Request.{End, Return, Sought}
use Rattle.pm_outcomes.specs.wanted.Sought.{caller_names, device_names}
use Rattle.pm_model.specs.declared.plan.Plan.{Plan}
use Rattle.pm_model.specs.declared.rows.CallerRow.{CallerRow}
use Rattle.pm_model.specs.Spelling.{newline}
use Rattle.pm_spans.specs.source.Visible.{visible}

abbrev pub further_name : List ℕ → List ℕ
further_name name = codes ", " ++ name

-- at most nine names behind another, and dots where there are more
abbrev pub some_names : List (List ℕ) → List ℕ
some_names names = if nat_le (length names) 9 then flat_map further_name names else flat_map further_name (take 9 names) ++ codes ", .."

abbrev pub names_text : List (List ℕ) → List ℕ
names_text [] = codes "none"
names_text (name ∷ rest) = name ++ some_names rest

-- `order: no caller "irk": the plan has open, irq`
abbrev pub no_name : List ℕ → List ℕ → List (List ℕ) → List ℕ
no_name kind name names = codes "order: no " ++ kind ++ codes " \"" ++ visible name ++ codes "\": the plan has " ++ names_text names ++ newline

abbrev pub commands_text : CallerRow → List ℕ
commands_text row = decimal (length row.script)

-- `order: no command 9 of irq: it has 5`
abbrev pub no_command : Plan → List ℕ → ℕ → ℕ → List ℕ
no_command plan name number caller = codes "order: no command " ++ decimal number ++ codes " of " ++ name ++ codes ": it has " ++ option_map_or commands_text (slice_get plan.callers caller) [] ++ newline

abbrev pub missing_text : Plan → Sought → Missing → List ℕ
missing_text plan (Return name number code) (missing.Command caller) = no_command plan name number caller
missing_text plan (Return name number code) missing.Caller = no_name (codes "caller") name (caller_names plan)
missing_text plan (Return name number code) missing.Device = no_name (codes "caller") name (caller_names plan)
missing_text plan (End name status usage error) _ = no_name (codes "device") name (device_names plan)
