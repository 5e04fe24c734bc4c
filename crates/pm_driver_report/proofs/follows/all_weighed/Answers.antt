-- Line by line.
use Rattle.pm_driver_report.proofs.FollowLemmas.{weighed_next, weighed_none}
use Rattle.pm_driver_report.proofs.follows.all_weighed.Goals as goal

pub loop-line-init : goal.loop-line-init
loop-line-init c = weighed_none c.args.driver.now c.args.examined.now c.args.passes.now c.new-out.result.items c.new-out.ensures.items

pub loop-line-preserved : goal.loop-line-preserved
loop-line-preserved c =
    weighed_next c.args.driver.now c.args.examined.now c.args.passes.now c.args.lines.now c.loop-line.out.items _ c.loop-line.line-index _ c.in_ok-made.made c.loop-line-test.true c.in_ok-made.ensures c.in_ok-push.ensures.items
    c.loop-line.invariant
