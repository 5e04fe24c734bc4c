use Rattle.std.proofs.Common.{length, ap, ◌∙◌, sym, arith}
use Rattle.pm_safety.specs.Inspected.{is_bond}
use Rattle.pm_safety.proofs.LinkLemmas.{any_at, any_end, any_more}
use Rattle.pm_safety.proofs.holding.has_supplier.Goals as goal

pub returns-then-is_bond : goal.returns-then-is_bond
returns-then-is_bond c =
    sym (any_at c.args.plan.now.links (is_bond c.args.parts.now.views c.args.dev) c.loop-link.link (omega (arith, ap length c.as_slice-link-end.ensures)) (sym c.is_bond.ensures ∙ c.if-is_bond.true))

pub loop-link-preserved : goal.loop-link-preserved
loop-link-preserved c =
    any_more c.args.plan.now.links (is_bond c.args.parts.now.views c.args.dev) c.loop-link.link (omega (arith, ap length c.as_slice-link-end.ensures)) (sym c.is_bond.ensures ∙ c.if-is_bond.false) c.loop-link.invariant

pub returns : goal.returns
returns c = sym c.loop-link.invariant ∙ any_end c.args.plan.now.links (is_bond c.args.parts.now.views c.args.dev) c.loop-link.link (omega (arith, ap length c.as_slice-link-end.ensures))
