use Rattle.std.proofs.Common.{◌∙◌, arith, length, sym}
use Rattle.pm_safety.specs.dependencies.Domains.{keeps_on}
use Rattle.pm_safety.proofs.dependencies.DomainLemmas.{find_more}
use Rattle.pm_safety.proofs.dependencies.domains.keeper.Goals as goal

pub loop-place-preserved : goal.loop-place-preserved
loop-place-preserved c =
    find_more (keeps_on c.args.plan.now c.args.parts.now.views c.args.wanted.0) c.loop-place.place (length c.args.plan.now.devices) _
    (omega (arith, c.loop-place-test.true, c.len-place-end.ensures)) (sym c.keeps_on.ensures ∙ c.if-keeps_on.false) c.loop-place.invariant
