-- By the line that leads there.
use Rattle.std.proofs.Common.{refl}
use Rattle.pm_explore.specs.state.SnapshotOf.{snapshot_of}
use Rattle.pm_outcomes.specs.paths.Runs.{snapshot_of_run}
use Rattle.pm_outcomes.proofs.paths.RunLemmas.{actor_is, at_is, can_to}
use Rattle.pm_outcomes.proofs.paths.WitnessLemmas.{leads_by}
use Rattle.pm_outcomes.proofs.paths.witness.follow_by.Goals as goal

pub line-requires-clause-in_range : goal.line-requires-clause-in_range
line-requires-clause-in_range c =
    let plan = c.args.plan.now in
    (can_to c.args.pace plan c.args.run.now c.requires.follows.0 (snapshot_of c.args.node.now) c.in-Some.actor c.requires.run (c.sizes.ensures.entries plan) (c.sizes.ensures.places plan) (c.times_are_near.ensures.lines c.args.pace plan) c.requires.follows.1 c.in-Some.is).in_range

pub line-requires-clause-near : goal.line-requires-clause-near
line-requires-clause-near c =
    let plan = c.args.plan.now in
    (can_to c.args.pace plan c.args.run.now c.requires.follows.0 (snapshot_of c.args.node.now) c.in-Some.actor c.requires.run (c.sizes.ensures.entries plan) (c.sizes.ensures.places plan) (c.times_are_near.ensures.lines c.args.pace plan) c.requires.follows.1 c.in-Some.is).near

pub unreachable-requires-in_default-line : goal.unreachable-requires-in_default-line
unreachable-requires-in_default-line c =
    let plan = c.args.plan.now in
    let can = can_to c.args.pace plan c.args.run.now c.requires.follows.0 (snapshot_of c.args.node.now) c.in-Some.actor c.requires.run (c.sizes.ensures.entries plan) (c.sizes.ensures.places plan) (c.times_are_near.ensures.lines c.args.pace plan) c.requires.follows.1 c.in-Some.is in
    c.in_default-line.ensures.none refl can.line can.by can.at can.may

pub returns-clause-line : goal.returns-clause-line
returns-clause-line c =
    let plan = c.args.plan.now in
    let old = c.args.run.now in
    let to = snapshot_of c.args.node.now in
    let f = c.requires.follows.1 in
    leads_by c.args.pace plan c.requires.follows.0 old c.follow.new.run c.in-Some.actor c.args.node.now.time to c.in-Some-line.line f c.in-Some-line.ensures.may c.in-Some-line.ensures.by c.in-Some-line.ensures.at
    (actor_is c.args.pace plan c.requires.follows.0 (snapshot_of_run old) to c.in-Some.actor f c.in-Some.is) (at_is c.args.pace plan c.requires.follows.0 (snapshot_of_run old) to f) (c.lines_are_by_one.ensures plan (snapshot_of_run old)) c.follow.ensures.snapshot
