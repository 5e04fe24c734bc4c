use Rattle.std.proofs.Common.{◌≡◌, rules}
use Rattle.pm_base.specs.declared.DevId.{DevId}
use Rattle.pm_model.specs.declared.plan.Plan.{Plan}
use Rattle.pm_model.specs.Excuse.{is_live}
use Rattle.pm_model.specs.History.{History}
use Rattle.pm_model.specs.Promises.{domain_bonds, parent_bonds, supplier_bonds}
use Rattle.pm_safety.specs.Inspected.{bond_of}
use Rattle.pm_safety.proofs.SafeLemmas.{all_excused}
use Rattle.pm_safety.proofs.inspecting.inspect.Goals as goal

pub returns-clause-excused : goal.returns-clause-excused
returns-clause-excused c =
    let plan : Plan = c.args.book.now.plan in
    let h : History = c.args.book.now.lines in
    let d : DevId = c.args.dev in
    let domains : c.domain_bond.result ≡ bond_of (is_live plan h d) (domain_bonds plan h d) = search rules in
    let parent : c.parent_bond.result ≡ bond_of (is_live plan h d) (parent_bonds plan h d) = search rules in
    let suppliers : c.supplier_bond.result ≡ bond_of (is_live plan h d) (supplier_bonds plan h d) = search rules in
    all_excused plan h d _ (c.runs_are_safe.ensures plan h c.lines-lines.ensures.lawful) c.requires domains parent suppliers
