use Rattle.std.proofs.Common.{◌<◌, ◌+◌, length, arith, rules}
use Rattle.pm_index.proofs.TreeLemmas.{climb_begins, climb_ends, climb_left, climb_right, first_leaf-zero, leaves_end, sibling_in_range, sibling_is_node}
use Rattle.pm_index.proofs.tree.climb.Goals as goal
use Rattle.pm_index.proofs.tree.climb.Goals.{else-node-eq0-via-then-node-eq0+else-nodes-node, else-node-eq0-via-else-node-eq0}

pub returns-then-from-nodes-clause-found : goal.returns-then-from-nodes-clause-found
returns-then-from-nodes-clause-found c = (omega arith, omega (arith, leaves_end c.args.levels, c.requires.halves), c.requires.under)

pub returns-then-nodes-from-clause-found : goal.returns-then-nodes-from-clause-found
returns-then-nodes-from-clause-found c = (omega arith, omega (arith, first_leaf-zero (c.args.from + 1)), omega arith)

pub returns-then-nodes-from-clause-first : goal.returns-then-nodes-from-clause-first
returns-then-nodes-from-clause-first c = (omega (arith, first_leaf-zero c.args.from), λ j low high. absurd (omega (arith, first_leaf-zero c.args.from)))

pub loop-level-init : goal.loop-level-init
loop-level-init c = climb_begins c.args.nodes.now c.args.bound c.args.from c.args.levels c.requires.in_range.0 (omega (arith, c.requires.in_range.1, c.requires.halves)) (omega arith)

pub offset_bounds-nodes-node : goal.offset_bounds-nodes-node
offset_bounds-nodes-node c =
    let inside : c.loop-level.node + 1 < length c.args.nodes.now = sibling_is_node c.args.nodes.now c.args.bound c.args.from c.args.levels c.loop-level.node c.loop-level.level c.requires.halves c.requires.kept c.loop-level-test.true c.loop-level.invariant c.if-node-eq0.true in
    search rules

pub bounds-nodes-node : goal.bounds-nodes-node
bounds-nodes-node c =
    sibling_is_node c.args.nodes.now c.args.bound c.args.from c.args.levels c.loop-level.node c.loop-level.level c.requires.halves c.requires.kept c.loop-level-test.true c.loop-level.invariant c.if-node-eq0.true

pub returns-then-nodes-node-clause-found : goal.returns-then-nodes-node-clause-found
returns-then-nodes-node-clause-found c =
    (omega arith, sibling_in_range c.args.nodes.now c.args.bound c.args.from c.args.levels c.loop-level.node c.loop-level.level c.requires.halves c.requires.kept c.loop-level-test.true c.loop-level.invariant c.if-node-eq0.true, c.if-nodes-node.true)

pub returns-then-nodes-node-clause-first : goal.returns-then-nodes-node-clause-first
returns-then-nodes-node-clause-first c =
    let climbed = c.loop-level.invariant in
    (omega (arith, climbed.reach), climbed.none)

pub loop-level-preserved : goal.loop-level-preserved
loop-level-preserved c =
    elim c.else-node-eq0.branch [
      | else-node-eq0-via-then-node-eq0+else-nodes-node w ↦ climb_left c.args.nodes.now c.args.bound c.args.from c.args.levels c.loop-level.node c.loop-level.level c.requires.halves c.requires.kept c.loop-level-test.true c.loop-level.invariant w.if-node-eq0.true w.if-nodes-node.false
      | else-node-eq0-via-else-node-eq0 w ↦ climb_right c.args.nodes.now c.args.bound c.args.from c.args.levels c.loop-level.node c.loop-level.level c.requires.halves c.requires.kept c.loop-level-test.true c.loop-level.invariant w.if-node-eq0.false
    ]

pub returns-clause-missing : goal.returns-clause-missing
returns-clause-missing c =
    climb_ends c.args.nodes.now c.args.bound c.args.from c.args.levels c.loop-level.node c.loop-level.level (omega (arith, c.loop-level.auto.level-end)) c.requires.halves c.loop-level.invariant
