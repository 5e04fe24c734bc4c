-- For which snapshot of a driver's order a node stands (this project's own).
use Rattle.pm_explore.specs.state.SnapshotOf.{snapshot_of}
use Rattle.pm_driver_orders.specs.DriverSnapshots.{DriverSnapshot}
use Rattle.pm_driver_rules.specs.declared.node.DriverNode.{DriverNode}

abbrev pub driver_snapshot_of : DriverNode → DriverSnapshot
driver_snapshot_of n = record { snapshot = snapshot_of n.snapshot; positions = n.positions.items; returned = n.returned; failures = n.failures }
