use Rattle.pm_index.proofs.TreeLemmas.{Descent}
use Rattle.pm_index.proofs.tree.descend.Given as goal

abbrev pub invariant-loop-below : goal.invariant-loop-below
invariant-loop-below l = Descent l.nodes l.bound l.node l.levels l.at l.below

abbrev pub decreases-loop-below : goal.decreases-loop-below
decreases-loop-below l = l.below
