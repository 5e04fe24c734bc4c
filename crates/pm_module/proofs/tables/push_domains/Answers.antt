use Rattle.std.proofs.Common.{◌≡◌, List, ◌++◌, OnOk, codes, subst}
use Rattle.std.specs.List.{flat_map}
use Rattle.pm_model.specs.declared.rows.DomainRow.{DomainRow}
use Rattle.pm_module.specs.Module.{end_row}
use Rattle.pm_module.specs.Rows.{domain_row}
use Rattle.pm_module.proofs.tables.push_domains.Goals as goal

pub returns : goal.returns
returns c =
    let P : List DomainRow → Type 0 = λ rows. OnOk c.push_table.result (c.push_table.new.text.items ≡ c.args.text.now.items ++ (codes "static const struct lab_domain lab_domains[] = {\n" ++ flat_map domain_row rows ++ end_row)) in
    subst P c.as_slice.ensures c.push_table.ensures
