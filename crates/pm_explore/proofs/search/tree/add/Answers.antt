use Rattle.pm_explore.proofs.search.TreeLemmas.{adds}
use Rattle.pm_explore.proofs.search.tree.add.Goals as goal

pub returns-clause-added : goal.returns-clause-added
returns-clause-added g c =
    adds g.N.PartialEq.eq (g.G.Graph.point c.args._graph.now) (λ n m is. g.met.G.Graph.same c.args._graph.now n m is) (λ n m is. g.met.G.Graph.alike c.args._graph.now n m is) c.args.tree.now.nodes.keys c.insert.new.tree.nodes.keys c.args.tree.now.parents.items c.insert.new.tree.parents.items
    c.args.node c.args.parent c.in_ok-insert.ensures.nodes c.in_ok-insert.ensures.parents c.in_ok-insert.ensures.stored
