use Rattle.std.proofs.Common.{◌<◌, get_or, length, map}
use Rattle.pm_driver_rules.specs.GoingOn.{driver_of}
use Rattle.pm_driver_rules.specs.Nodes.{driver_snapshot_of}
use Rattle.pm_driver_search.specs.Standing.{IsRun}
use Rattle.pm_driver_search.specs.Witness.{IsWitness}
use Rattle.pm_driver_search.proofs.witness.lines_to.Given as goal

abbrev pub invariant-loop-left : goal.invariant-loop-left
invariant-loop-left l = record {
  within : l.left < length l.path;
  run : IsRun l.going.rules.now.plan.now l.run;
  here : IsWitness l.going.pace (driver_of l.going.rules.now) l.going.most (map driver_snapshot_of l.tree.nodes.keys) l.tree.parents.items (get_or l.path l.left 0) l.lines.items;
}

abbrev pub decreases-loop-left : goal.decreases-loop-left
decreases-loop-left l = l.left
