use Rattle.std.proofs.Common.{◌∙◌, arith, length, sym}
use Rattle.pm_safety.specs.dependencies.Domains.{is_active_within}
use Rattle.pm_safety.proofs.dependencies.DomainLemmas.{any_more}
use Rattle.pm_safety.proofs.dependencies.domains.has_active.Goals as goal

pub loop-place-preserved : goal.loop-place-preserved
loop-place-preserved c =
    any_more (is_active_within c.args.plan.now c.args.parts.now.views c.args.wanted.0) c.loop-place.place (length c.args.plan.now.devices) _
    (omega (arith, c.loop-place-test.true, c.len-place-end.ensures)) (sym c.is_active_within.ensures ∙ c.if-is_active_within.false) c.loop-place.invariant
