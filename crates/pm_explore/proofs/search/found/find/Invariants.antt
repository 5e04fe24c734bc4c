use Rattle.std.proofs.Common.{◌≤◌, length, map, max}
use Rattle.pm_explore.proofs.search.Reaching.{Round}
use Rattle.pm_explore.proofs.search.found.find.Given as goal

abbrev pub invariant-loop-k : goal.invariant-loop-k
invariant-loop-k g l = record {
  ready : g.G.Graph.IsReady l.graph l.scratch;
  room : length l.tree.nodes.keys ≤ max l.limit 1;
  round : Round (g.G.Graph.Follows l.graph) (g.G.Graph.start l.graph) l.k (map (g.G.Graph.point l.graph) l.tree.nodes.keys) l.tree.parents.items l.spent l.rounds.items;
}
