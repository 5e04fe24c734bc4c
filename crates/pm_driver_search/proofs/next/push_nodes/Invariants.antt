use Rattle.std.proofs.Common.{◌≡◌, ◌++◌, map, take}
use Rattle.pm_driver_rules.specs.Nodes.{driver_snapshot_of}
use Rattle.pm_driver_search.specs.Standing.{snapshot_behind}
use Rattle.pm_driver_search.proofs.next.push_nodes.Given as goal

abbrev pub invariant-loop-all : goal.invariant-loop-all
invariant-loop-all l = map driver_snapshot_of l.out.items ≡ map driver_snapshot_of l.initial.out.items ++ map (λ v. snapshot_behind (driver_snapshot_of l.node) l.run.state.world l.line l.failures v.items) (take l.all-index l.positions)
