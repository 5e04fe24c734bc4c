-- The text of a plan as a module for a kernel (this project's own).
use Rattle.std.specs.Prelude.{ℕ, List, ◌++◌, codes}
use Rattle.std.specs.List.{flat_map}
use Rattle.pm_model.specs.declared.plan.Plan.{Plan}
use Rattle.pm_model.specs.Text.{names_of}
use Rattle.pm_module.specs.Rows.{caller_row, device_row, domain_row, link_row}
use Rattle.pm_module.specs.declared.engine.TheConstants.{ENGINE}
use Rattle.pm_module.specs.declared.head.TheConstants.{HEAD}

-- what stands before the tables and behind them; both are the same for each plan
abbrev pub head : List ℕ
head = HEAD.now

abbrev pub engine : List ℕ
engine = ENGINE.now

-- an empty row ends a table
abbrev pub end_row : List ℕ
end_row = codes "\t{ }\n};\n\n"

-- the tables, each with a row for each row of the plan, in order
abbrev pub domain_table : Plan → List ℕ
domain_table plan = codes "static const struct lab_domain lab_domains[] = {\n" ++ flat_map domain_row plan.domains ++ end_row

abbrev pub device_table : Plan → List ℕ
device_table plan = codes "static const struct lab_device lab_devices[] = {\n" ++ flat_map device_row plan.devices ++ end_row

abbrev pub link_table : Plan → List ℕ
link_table plan = codes "static const struct lab_link lab_links[] = {\n" ++ flat_map link_row plan.links ++ end_row

abbrev pub caller_table : Plan → List ℕ
caller_table plan = codes "static const struct lab_caller lab_callers[] = {\n" ++ flat_map (caller_row (names_of plan)) plan.callers ++ end_row

abbrev pub tables : Plan → List ℕ
tables plan = domain_table plan ++ device_table plan ++ link_table plan ++ caller_table plan

unfoldable pub module_text : Plan → List ℕ
module_text plan = head ++ tables plan ++ engine
