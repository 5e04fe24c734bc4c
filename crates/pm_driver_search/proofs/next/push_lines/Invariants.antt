use Rattle.std.proofs.Common.{◌≡◌, ◌++◌, map, take}
use Rattle.pm_driver_rules.specs.GoingOn.{driver_of}
use Rattle.pm_driver_rules.specs.Nodes.{driver_snapshot_of}
use Rattle.pm_driver_search.specs.Standing.{IsRun}
use Rattle.pm_driver_search.specs.Turns.{snapshots_after}
use Rattle.pm_driver_search.proofs.next.push_lines.Given as goal

abbrev pub invariant-loop-line : goal.invariant-loop-line
invariant-loop-line l = record {
  run : IsRun l.going.rules.now.plan.now l.run;
  nodes : map driver_snapshot_of l.out.items ≡ map driver_snapshot_of l.initial.out.items ++ snapshots_after (driver_of l.going.rules.now) (driver_snapshot_of l.node) l.failing (take l.line-index l.lines);
}
