use Rattle.std.proofs.Common.{◌<◌, length}
use Rattle.pm_explore.proofs.search.TreeLemmas.{LeadsTo}
use Rattle.pm_explore.proofs.search.tree.path_back.Given as goal

abbrev pub invariant-loop-here : goal.invariant-loop-here
invariant-loop-here l = record {
  within : l.here < length l.parents;
  leads : LeadsTo l.parents l.fn.at l.here l.path.items;
}

abbrev pub decreases-loop-here : goal.decreases-loop-here
decreases-loop-here l = l.here
