use Rattle.std.proofs.Common.{arith}
use Rattle.pm_state.specs.Chains.{chain_at}
use Rattle.pm_state.proofs.ChainLemmas.{max_is}
use Rattle.pm_state.proofs.OwnLemmas.{before_is, walk_begins, walk_more, walk_ends}
use Rattle.pm_state.proofs.rooms.supplier_chain.Goals as goal

pub loop-left-init : goal.loop-left-init
loop-left-init c = walk_begins c.args.links.now c.args.dev (chain_at c.args.chains.now) c.args.own.now.last c.args.own.now.before c.last-left.result c.requires.own c.requires.in_range c.last-left.ensures

pub loop-left-smaller : goal.loop-left-smaller
loop-left-smaller c =
    let prior = before_is c.args.links.now c.args.dev c.args.own.now.last c.args.own.now.before c.loop-left.left c.before-left.result c.requires.own c.loop-left-test.true c.loop-left.invariant.within
    c.loop-left.invariant.its c.before-left.ensures in
    let within = prior.within in omega (arith, within, c.loop-left-test.true)

pub loop-left-preserved : goal.loop-left-preserved
loop-left-preserved c =
    let prior = before_is c.args.links.now c.args.dev c.args.own.now.last c.args.own.now.before c.loop-left.left c.before-left.result c.requires.own c.loop-left-test.true c.loop-left.invariant.within
    c.loop-left.invariant.its c.before-left.ensures in
    walk_more c.args.links.now c.args.dev (chain_at c.args.chains.now) c.loop-left.longest c.loop-left.left c.link_chain.result c.max-longest.result c.before-left.result _ c.loop-left-test.true
    c.loop-left.invariant prior c.link_chain.ensures (max_is c.max-longest.result c.loop-left.longest c.link_chain.result c.max-longest.ensures)

pub returns : goal.returns
returns c = walk_ends c.args.links.now c.args.dev (chain_at c.args.chains.now) c.loop-left.longest c.loop-left.left c.loop-left.invariant c.loop-left-test.false
