use Rattle.std.proofs.Common.{ℕ, ◌+◌, ◌-◌, ◌≤◌, false, length, map, max}
use Rattle.pm_explore.specs.search.Growing.{AreSpread, IsKept, IsLed}
use Rattle.pm_explore.specs.search.Trees.{IsTree}
use Rattle.pm_explore.proofs.search.rounds.settle.Given as goal

abbrev pub invariant-loop-at : goal.invariant-loop-at
invariant-loop-at g l = record {
  ready : g.G.Graph.IsReady l.graph l.scratch;
  tree : IsTree (g.G.Graph.Follows l.graph) (g.G.Graph.start l.graph) (map (g.G.Graph.point l.graph) l.tree.nodes.keys) l.tree.parents.items;
  room : length l.tree.nodes.keys ≤ max l.limit 1;
  within : l.at ≤ length (map (g.G.Graph.point l.graph) l.tree.nodes.keys);
  spread : AreSpread (g.G.Graph.Follows l.graph) false l.at (map (g.G.Graph.point l.graph) l.tree.nodes.keys);
  points : IsKept (map (g.G.Graph.point l.graph) l.fn.tree.nodes.keys) (map (g.G.Graph.point l.graph) l.tree.nodes.keys);
  parents : IsKept l.fn.tree.parents.items l.tree.parents.items;
  led : (k : ℕ) → IsLed (g.G.Graph.Follows l.graph) k (map (g.G.Graph.point l.graph) l.fn.tree.nodes.keys) l.fn.tree.parents.items → IsLed (g.G.Graph.Follows l.graph) k (map (g.G.Graph.point l.graph) l.tree.nodes.keys) l.tree.parents.items;
}

abbrev pub decreases-loop-at : goal.decreases-loop-at
decreases-loop-at g l = max l.limit 1 - l.at
