use Rattle.std.proofs.Common.{◌∙◌, ap}
use Rattle.pm_explore.specs.state.SnapshotOf.{snapshot_of}
use Rattle.pm_driver_orders.specs.DriverSnapshots.{returned_step}
use Rattle.pm_driver_rules.specs.Nodes.{driver_snapshot_of}
use Rattle.pm_driver_search.proofs.NextLemmas.{behind_is}
use Rattle.pm_driver_search.proofs.next.node_behind.Goals as goal

pub returns : goal.returns
returns c =
    behind_is (driver_snapshot_of c.args.node.now) c.args.run.now.state.world c.args.line.now c.args.failures c.args.all.now c.in_ok-positions.positions.items (snapshot_of c.in_ok-snapshot.snapshot) c.returned_step-returned.result c.in_ok-snapshot.ensures c.in_ok-positions.ensures
    (c.returned_step-returned.ensures ∙ ap (returned_step c.args.line.now.actor c.args.line.now.event) c.as_slice-own.ensures.value)
