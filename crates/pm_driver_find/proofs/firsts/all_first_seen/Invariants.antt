use Rattle.std.proofs.Common.{map}
use Rattle.pm_driver_rules.specs.Nodes.{driver_snapshot_of}
use Rattle.pm_driver_find.specs.Told.{AreFirstSeen}
use Rattle.pm_driver_find.proofs.firsts.all_first_seen.Given as goal

abbrev pub invariant-loop-sight : goal.invariant-loop-sight
invariant-loop-sight l = AreFirstSeen l.examined (map driver_snapshot_of l.tree.nodes.keys) l.sights l.sight-index l.told.items
