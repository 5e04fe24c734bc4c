use Rattle.std.proofs.Common.{◌≡◌, ◌+◌, length, arith}
use Rattle.pm_index.specs.Tree.{first_leaf}
use Rattle.pm_index.proofs.TreeLemmas.{first_of_both, leaves_end, none_under, some_leaves}
use Rattle.pm_index.proofs.tree.first_under.Goals as goal
use Rattle.pm_index.proofs.tree.first_under.Goals.{then-nodes-bound-via-then-nodes-bound, then-nodes-bound-via-else-nodes-bound+then-from-nodes}

pub bounds-nodes-1 : goal.bounds-nodes-1
bounds-nodes-1 c = omega (arith, some_leaves c.args.levels, c.requires.halves)

pub returns-then-nodes-bound-clause-missing : goal.returns-then-nodes-bound-clause-missing
returns-then-nodes-bound-clause-missing c =
    elim c.then-nodes-bound.branch [
      | then-nodes-bound-via-then-nodes-bound w ↦
          let end : first_leaf (1 + 1) c.args.levels ≡ length c.args.nodes.now = omega (arith, leaves_end c.args.levels, c.requires.halves) in
          let none = none_under c.args.nodes.now c.args.bound c.requires.kept c.args.levels 1 (omega arith) (omega arith) w.if-nodes-bound.true in
          λ j low high. none j (omega (arith, c.requires.in_range.0)) (omega arith)
      | then-nodes-bound-via-else-nodes-bound+then-from-nodes w ↦ λ j low high. absurd (omega (arith, w.if-from-nodes.true))
    ]

pub returns-clause-found : goal.returns-clause-found
returns-clause-found c =
    let top = c.in_ok-node.ensures in
    let leaf = c.descend.ensures.found in
    (omega (arith, top.first.0, leaf.0), omega (arith, top.found.1, leaf.1), leaf.2)

pub returns-clause-first : goal.returns-clause-first
returns-clause-first c =
    first_of_both c.args.nodes.now c.args.bound c.args.from (first_leaf c.in_ok-node.node c.in_ok-node.level) c.descend.result c.in_ok-node.ensures.first.1 c.descend.ensures.first
