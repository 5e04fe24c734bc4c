use Rattle.std.proofs.Common.{◌≡◌, ◌≤◌, length, map, max}
use Rattle.pm_explore.specs.search.Growing.{Grows}
use Rattle.pm_explore.specs.search.Trees.{IsTree}
use Rattle.pm_explore.proofs.search.Putting.{Putting}
use Rattle.pm_explore.proofs.search.spread.spread.Given as goal

abbrev pub invariant-loop-node : goal.invariant-loop-node
invariant-loop-node g l = record {
  putting : Putting (map (g.G.Graph.point l.graph) l.initial.next.items) (map (g.G.Graph.point l.graph) l.next.items) (map (g.G.Graph.point l.graph) l.fn.tree.nodes.keys) (map (g.G.Graph.point l.graph) l.tree.nodes.keys);
  tree : IsTree (g.G.Graph.Follows l.graph) (g.G.Graph.start l.graph) (map (g.G.Graph.point l.graph) l.tree.nodes.keys) l.tree.parents.items;
  room : length l.tree.nodes.keys ≤ max l.limit 1;
  parents : Grows (λ parent. parent ≡ l.at) l.fn.tree.parents.items l.tree.parents.items;
}

abbrev pub decreases-loop-node : goal.decreases-loop-node
decreases-loop-node g l = length l.next.items
