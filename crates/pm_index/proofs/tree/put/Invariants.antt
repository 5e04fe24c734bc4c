use Rattle.std.proofs.Common.{◌≡◌, ◌<◌, drop}
use Rattle.pm_index.proofs.TreeLemmas.{AreKeptBut}
use Rattle.pm_index.proofs.tree.put.Given as goal

abbrev pub invariant-loop-node : goal.invariant-loop-node
invariant-loop-node l = record {
  in_range : l.node < l.leaves;
  kept : AreKeptBut l.node l.nodes;
  leaves : drop l.leaves l.nodes ≡ drop l.leaves l.initial.nodes;
}

abbrev pub decreases-loop-node : goal.decreases-loop-node
decreases-loop-node l = l.node
