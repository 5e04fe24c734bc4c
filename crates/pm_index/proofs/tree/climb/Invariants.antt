use Rattle.pm_index.proofs.TreeLemmas.{Climb}
use Rattle.pm_index.proofs.tree.climb.Given as goal

abbrev pub invariant-loop-level : goal.invariant-loop-level
invariant-loop-level l = Climb l.nodes l.bound l.from l.levels l.node l.level
