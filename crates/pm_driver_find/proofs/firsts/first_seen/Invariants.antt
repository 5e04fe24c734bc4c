use Rattle.std.proofs.Common.{map}
use Rattle.pm_driver_rules.specs.Nodes.{driver_snapshot_of}
use Rattle.pm_driver_find.specs.Told.{IsUnseen}
use Rattle.pm_driver_find.proofs.firsts.first_seen.Given as goal

abbrev pub invariant-loop-place : goal.invariant-loop-place
invariant-loop-place l = IsUnseen l.examined (map driver_snapshot_of l.tree.nodes.keys) l.place l.sight
