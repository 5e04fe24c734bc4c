use Rattle.std.proofs.Common.{◌++◌, ap, ◌∙◌}
use Rattle.std.specs.Option.{option_to_list}
use Rattle.pm_safety.specs.dependencies.Kept.{excuses_by}
use Rattle.pm_safety.specs.dependencies.Told.{supplier_bond}
use Rattle.pm_safety.proofs.dependencies.ToldLemmas.{told_more}
use Rattle.pm_safety.proofs.dependencies.told.push_suppliers.Goals as goal

pub loop-place-preserved : goal.loop-place-preserved
loop-place-preserved c =
    told_more (λ l. option_to_list (supplier_bond c.args.plan.now c.args.parts.now.views (excuses_by c.args.pasts.now).supplier l)) c.args.bonds.now.items c.loop-place.bonds.items c.push.new.bonds.items
    c.args.links.now c.loop-place.place 0 c.loop-place-test.true c.loop-place.invariant
    (c.in_ok-push.ensures ∙ ap (λ o. c.loop-place.bonds.items ++ option_to_list o) c.supplier_bond.ensures)
