-- By the line that leads there.
use Rattle.std.proofs.Common.{refl}
use Rattle.pm_explore.specs.state.SnapshotOf.{snapshot_of}
use Rattle.pm_outcomes.specs.paths.Runs.{snapshot_of_run}
use Rattle.pm_outcomes.proofs.paths.RunLemmas.{actor_is, at_is, can_to, led_to}
use Rattle.pm_outcomes.proofs.paths.replay.follow.Goals as goal

pub step-took-requires-clause-in_range : goal.step-took-requires-clause-in_range
step-took-requires-clause-in_range c =
    let plan = c.args.plan.now in
    (can_to c.args._pace plan c.args.run.now c.requires.follows.0 (snapshot_of c.args.node.now) c.in-Some.actor c.requires.run (c.sizes.ensures.entries plan) (c.sizes.ensures.places plan) (c.times_are_near.ensures.lines c.args._pace plan) c.requires.follows.1 c.in-Some.is).in_range

pub step-took-requires-clause-near : goal.step-took-requires-clause-near
step-took-requires-clause-near c =
    let plan = c.args.plan.now in
    (can_to c.args._pace plan c.args.run.now c.requires.follows.0 (snapshot_of c.args.node.now) c.in-Some.actor c.requires.run (c.sizes.ensures.entries plan) (c.sizes.ensures.places plan) (c.times_are_near.ensures.lines c.args._pace plan) c.requires.follows.1 c.in-Some.is).near

pub prove-unreachable-requires : goal.prove-unreachable-requires
prove-unreachable-requires c =
    let plan = c.args.plan.now in
    let can = can_to c.args._pace plan c.args.run.now c.requires.follows.0 (snapshot_of c.args.node.now) c.in-Some.actor c.requires.run (c.sizes.ensures.entries plan) (c.sizes.ensures.places plan) (c.times_are_near.ensures.lines c.args._pace plan) c.requires.follows.1 c.in-Some.is in
    c.if-prove.ensures.none refl can.line can.by can.at can.may

pub returns-clause-snapshot : goal.returns-clause-snapshot
returns-clause-snapshot c =
    let plan = c.args.plan.now in
    let old = c.args.run.now in
    let to = snapshot_of c.args.node.now in
    let f = c.requires.follows.1 in
    led_to c.args._pace plan c.requires.follows.0 old c.step-took.new.self c.in-Some.actor c.args.node.now.time to f (c.step-took.ensures.took c.if-prove.false)
    (actor_is c.args._pace plan c.requires.follows.0 (snapshot_of_run old) to c.in-Some.actor f c.in-Some.is) (at_is c.args._pace plan c.requires.follows.0 (snapshot_of_run old) to f) (c.lines_are_by_one.ensures plan (snapshot_of_run old))
