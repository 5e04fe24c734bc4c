use Rattle.pm_driver_rules.specs.Nodes.{driver_snapshot_of}
use Rattle.pm_driver_find.specs.Following.{ShowsNone}
use Rattle.pm_driver_find.proofs.following.first_shown.Given as goal

abbrev pub invariant-loop-number : goal.invariant-loop-number
invariant-loop-number l = ShowsNone l.examined (driver_snapshot_of l.node) l.told l.number
