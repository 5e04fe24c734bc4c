use Rattle.std.proofs.Common.{◌≡◌, ◌<◌, ◌+◌, Some, get_or, length, map, slice_get}
use Rattle.pm_explore.specs.state.SnapshotOf.{snapshot_of}
use Rattle.pm_outcomes.specs.paths.Runs.{AreLinesOf, IsRunOf, snapshot_of_run}
use Rattle.pm_outcomes.proofs.paths.WitnessLemmas.{AreSpent}
use Rattle.pm_outcomes.proofs.paths.witness.lines_to.Given as goal

abbrev pub invariant-loop-left : goal.invariant-loop-left
invariant-loop-left l = record {
  within : l.left < length l.path;
  run : IsRunOf l.plan l.run;
  here : slice_get (map snapshot_of l.tree.nodes.keys) (get_or l.path l.left 0) ≡ Some (snapshot_of_run l.run);
  count : l.run.lines + l.left + 1 ≡ length l.path;
  are : AreLinesOf l.pace l.plan l.run l.lines.items;
  spent : AreSpent l.pace l.plan (map snapshot_of l.tree.nodes.keys) l.tree.parents.items (get_or l.path l.left 0) l.lines.items;
}

abbrev pub decreases-loop-left : goal.decreases-loop-left
decreases-loop-left l = l.left
