use Rattle.std.proofs.Common.{length, ap, ◌∙◌, sym, arith}
use Rattle.pm_safety.specs.Inspected.{has_active}
use Rattle.pm_safety.proofs.LinkLemmas.{all_at, all_end, all_more}
use Rattle.pm_safety.proofs.holding.suppliers_are_active.Goals as goal

pub returns-then-not-has_active : goal.returns-then-not-has_active
returns-then-not-has_active c =
    sym (all_at c.args.plan.now.links (has_active c.args.parts.now.views c.args.dev) c.loop-link.link (omega (arith, ap length c.as_slice-link-end.ensures)) (sym c.has_active.ensures ∙ c.if-not-has_active.true))

pub loop-link-preserved : goal.loop-link-preserved
loop-link-preserved c =
    all_more c.args.plan.now.links (has_active c.args.parts.now.views c.args.dev) c.loop-link.link (omega (arith, ap length c.as_slice-link-end.ensures)) (sym c.has_active.ensures ∙ c.if-not-has_active.false) c.loop-link.invariant

pub returns : goal.returns
returns c = sym c.loop-link.invariant ∙ all_end c.args.plan.now.links (has_active c.args.parts.now.views c.args.dev) c.loop-link.link (omega (arith, ap length c.as_slice-link-end.ensures))
