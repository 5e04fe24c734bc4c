use Rattle.std.proofs.Common.{◌∙◌, arith, length, sym}
use Rattle.pm_find.specs.findings.Ending.{holds_supplier}
use Rattle.pm_find.proofs.findings.FirstLemmas.{find_more}
use Rattle.pm_find.proofs.findings.ending.holding_link.Goals as goal

pub loop-link-preserved : goal.loop-link-preserved
loop-link-preserved c =
    find_more (holds_supplier c.args.plan.now c.args.parts.now.views c.args.dev) c.loop-link.link (length c.args.plan.now.links) _
    (omega (arith, c.loop-link-test.true, c.link_count-link-end.ensures)) (sym c.holds_supplier.ensures ∙ c.if-holds_supplier.false) c.loop-link.invariant
