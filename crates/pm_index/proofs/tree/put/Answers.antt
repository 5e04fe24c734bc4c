use Rattle.std.proofs.Common.{◌∙◌}
use Rattle.std.proofs.lemmas.List.{drop-set-add}
use Rattle.pm_index.proofs.TreeLemmas.{set_as_is}
use Rattle.pm_index.proofs.tree.put.Goals as goal

pub returns-then-nodes-leaves-clause-put : goal.returns-then-nodes-leaves-clause-put
returns-then-nodes-leaves-clause-put c = set_as_is c.args.nodes.now c.args.leaves c.args.leaf c.args.key c.if-nodes-leaves.true

pub returns-then-nodes-node-clause-put : goal.returns-then-nodes-node-clause-put
returns-then-nodes-node-clause-put c =
    c.loop-node.invariant.leaves ∙ drop-set-add c.args.leaves c.args.nodes.now c.args.leaf c.args.key

pub returns-after-loop-node-clause-put : goal.returns-after-loop-node-clause-put
returns-after-loop-node-clause-put c =
    c.loop-node.invariant.leaves ∙ drop-set-add c.args.leaves c.args.nodes.now c.args.leaf c.args.key
