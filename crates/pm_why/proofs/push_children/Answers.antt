use Rattle.std.proofs.Common.{arith, ap, sym, ◌∙◌}
use Rattle.pm_why.specs.Reasons.{is_child}
use Rattle.pm_why.proofs.GetLemmas.{children_end, children_step}
use Rattle.pm_why.proofs.push_children.Goals as goal

pub loop-place-preserved : goal.loop-place-preserved
loop-place-preserved c =
    children_step c.args.plan.now (is_child c.args.plan.now c.args.parts.now.views c.args.dev) c.loop-place.place c.is_child.result c.args.all.now.items c.loop-place.all.items c.push_if.new.all.items
    (omega (arith, c.loop-place-test.true, c.len-place-end.ensures)) c.loop-place.invariant c.is_child.ensures c.in_ok-push_if.ensures

pub returns : goal.returns
returns c =
    children_end c.args.plan.now c.args.parts.now.views c.args.dev c.loop-place.place c.args.all.now.items c.loop-place.all.items (omega (arith, c.loop-place-test.false, c.len-place-end.ensures))
    (ap (λ x. x.ignores) (sym c.device.ensures.views) ∙ c.if-device.false) c.loop-place.invariant
