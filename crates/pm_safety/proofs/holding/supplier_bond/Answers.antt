use Rattle.pm_safety.proofs.BondLemmas.{suppliers_are}
use Rattle.pm_safety.proofs.holding.supplier_bond.Goals as goal

pub returns : goal.returns
returns c = λ h same. rw (c.answer.ensures, c.has_supplier-some.ensures, c.suppliers_are_active.ensures, same) (suppliers_are c.args.plan.now h c.args.dev c.args.live)
