use Rattle.std.proofs.Common.{map}
use Rattle.pm_driver_rules.specs.Nodes.{driver_snapshot_of}
use Rattle.pm_driver_find.proofs.BeforeLemmas.{IsFirstBack}
use Rattle.pm_driver_find.proofs.following.shown_before.Given as goal

abbrev pub invariant-loop-parent : goal.invariant-loop-parent
invariant-loop-parent l = IsFirstBack l.examined (map driver_snapshot_of l.tree.nodes.keys) l.tree.parents.items l.told l.fn.place l.here l.first

abbrev pub decreases-loop-parent : goal.decreases-loop-parent
decreases-loop-parent l = l.here
