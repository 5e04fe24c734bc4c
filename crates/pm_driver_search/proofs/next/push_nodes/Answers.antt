use Rattle.std.proofs.Common.{◌∙◌, ap}
use Rattle.pm_driver_rules.specs.Nodes.{driver_snapshot_of}
use Rattle.pm_driver_search.specs.Standing.{snapshot_behind}
use Rattle.pm_driver_search.proofs.NextLemmas.{push_more, push_whole}
use Rattle.pm_driver_search.proofs.next.push_nodes.Goals as goal

pub loop-all-preserved : goal.loop-all-preserved
loop-all-preserved c =
    push_more driver_snapshot_of (λ v. snapshot_behind (driver_snapshot_of c.args.node.now) c.args.run.now.state.world c.args.line.now c.args.failures v.items) c.args.out.now.items c.loop-all.out.items c.push.new.self.items c.in_ok-next.next c.args.positions.now c.loop-all.all-index c.all-item.result
    c.loop-all-test.true c.loop-all.invariant c.in_ok-push.ensures.items
    (c.in_ok-next.ensures ∙ ap (snapshot_behind (driver_snapshot_of c.args.node.now) c.args.run.now.state.world c.args.line.now c.args.failures) (c.as_slice.ensures.value ∙ ap (λ v. v.items) c.all-item.is))

pub returns : goal.returns
returns c =
    push_whole driver_snapshot_of (λ v. snapshot_behind (driver_snapshot_of c.args.node.now) c.args.run.now.state.world c.args.line.now c.args.failures v.items) c.args.out.now.items c.loop-all.out.items c.args.positions.now c.loop-all.all-index c.loop-all-test.false c.loop-all.invariant
