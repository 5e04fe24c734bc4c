use Rattle.std.proofs.Common.{◌<◌, ◌*◌, length, arith, rules}
use Rattle.pm_index.proofs.TreeLemmas.{descent_begins, descent_first, descent_found, descent_inner, descent_step_left, descent_step_right}
use Rattle.pm_index.proofs.tree.descend.Goals as goal

pub loop-below-init : goal.loop-below-init
loop-below-init c = descent_begins c.args.nodes.now c.args.bound c.args.node c.args.levels c.requires.node c.requires.under

pub overflow_mul-at : goal.overflow_mul-at
overflow_mul-at c =
    let inner = descent_inner c.args.nodes.now c.args.bound c.args.node c.args.levels c.loop-below.at c.loop-below.below c.requires.kept c.requires.in_range c.loop-below-test.true c.loop-below.invariant in
    let inside : c.loop-below.at * 2 < length c.args.nodes.now = omega arith in
    search rules

pub offset_bounds-nodes-at : goal.offset_bounds-nodes-at
offset_bounds-nodes-at c =
    let inner = descent_inner c.args.nodes.now c.args.bound c.args.node c.args.levels c.loop-below.at c.loop-below.below c.requires.kept c.requires.in_range c.loop-below-test.true c.loop-below.invariant in
    let inside : c.loop-below.at * 2 < length c.args.nodes.now = omega arith in
    search rules

pub bounds-nodes-at : goal.bounds-nodes-at
bounds-nodes-at c =
    let inner = descent_inner c.args.nodes.now c.args.bound c.args.node c.args.levels c.loop-below.at c.loop-below.below c.requires.kept c.requires.in_range c.loop-below-test.true c.loop-below.invariant in
    omega arith

pub loop-below-preserved : goal.loop-below-preserved
loop-below-preserved c =
    descent_step_left c.args.nodes.now c.args.bound c.args.node c.args.levels c.loop-below.at c.loop-below.below (c.loop-below.at * 2) (omega arith) c.requires.kept c.requires.in_range c.loop-below-test.true c.loop-below.invariant c.if-nodes-at.false

pub loop-below-preserved-then-nodes-at : goal.loop-below-preserved-then-nodes-at
loop-below-preserved-then-nodes-at c =
    descent_step_right c.args.nodes.now c.args.bound c.args.node c.args.levels c.loop-below.at c.loop-below.below (c.loop-below.at * 2) (omega arith) c.requires.kept c.requires.in_range c.loop-below-test.true c.loop-below.invariant c.if-nodes-at.true

pub returns-clause-found : goal.returns-clause-found
returns-clause-found c = descent_found c.args.nodes.now c.args.bound c.args.node c.args.levels c.loop-below.at c.loop-below.below (omega arith) c.loop-below.invariant

pub returns-clause-first : goal.returns-clause-first
returns-clause-first c = descent_first c.args.nodes.now c.args.bound c.args.node c.args.levels c.loop-below.at c.loop-below.below (omega arith) c.loop-below.invariant
