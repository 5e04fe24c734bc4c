use Rattle.std.proofs.Common.{◌∙◌, arith, length, sym}
use Rattle.pm_find.specs.findings.Ending.{is_active_child}
use Rattle.pm_find.proofs.findings.FirstLemmas.{find_more}
use Rattle.pm_find.proofs.findings.ending.first_child.Goals as goal

pub loop-place-preserved : goal.loop-place-preserved
loop-place-preserved c =
    find_more (is_active_child c.args.plan.now c.args.parts.now.views c.args.dev) c.loop-place.place (length c.args.plan.now.devices) _
    (omega (arith, c.loop-place-test.true, c.len-place-end.ensures)) (sym c.is_active_child.ensures ∙ c.if-is_active_child.false) c.loop-place.invariant
