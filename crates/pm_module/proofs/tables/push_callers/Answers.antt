use Rattle.std.proofs.Common.{◌≡◌, List, ◌++◌, OnOk, codes, subst}
use Rattle.std.specs.List.{flat_map}
use Rattle.pm_model.specs.declared.rows.CallerRow.{CallerRow}
use Rattle.pm_model.specs.Text.{names_of}
use Rattle.pm_module.specs.Module.{end_row}
use Rattle.pm_module.specs.Rows.{caller_row}
use Rattle.pm_module.proofs.tables.push_callers.Goals as goal

pub returns : goal.returns
returns c =
    let P : List CallerRow → Type 0 = λ rows. OnOk c.push_table.result (c.push_table.new.text.items ≡ c.args.text.now.items ++ (codes "static const struct lab_caller lab_callers[] = {\n" ++ flat_map (caller_row (names_of c.args.plan.now)) rows ++ end_row)) in
    subst P c.as_slice.ensures c.push_table.ensures
