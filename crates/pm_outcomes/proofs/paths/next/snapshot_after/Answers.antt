-- By the line.
use Rattle.std.proofs.Common.{◌∙◌, refl}
use Rattle.pm_outcomes.specs.paths.Runs.{snapshot_of_run}
use Rattle.pm_outcomes.proofs.paths.RunLemmas.{can_by, led_by}
use Rattle.pm_outcomes.proofs.paths.next.snapshot_after.Goals as goal

pub step-took-requires-clause-in_range : goal.step-took-requires-clause-in_range
step-took-requires-clause-in_range c =
    let plan = c.args.plan.now in
    let next = c.requires.next in
    (can_by c.args._pace plan c.args.run.now c.args.line.now c.requires.run (c.sizes.ensures.entries plan) (c.sizes.ensures.places plan) (c.times_are_near.ensures.lines c.args._pace plan) next.may next.timely).in_range

pub step-took-requires-clause-near : goal.step-took-requires-clause-near
step-took-requires-clause-near c =
    let plan = c.args.plan.now in
    let next = c.requires.next in
    (can_by c.args._pace plan c.args.run.now c.args.line.now c.requires.run (c.sizes.ensures.entries plan) (c.sizes.ensures.places plan) (c.times_are_near.ensures.lines c.args._pace plan) next.may next.timely).near

pub prove-unreachable-requires : goal.prove-unreachable-requires
prove-unreachable-requires c = c.if-prove.ensures.none refl c.args.line.now refl refl c.requires.next.may

pub returns-clause-snapshot : goal.returns-clause-snapshot
returns-clause-snapshot c =
    let plan = c.args.plan.now in
    c.in_ok-snapshot.ensures ∙ led_by plan c.args.run.now c.step-took.new.self c.args.line.now (snapshot_of_run c.args.run.now) refl c.requires.next.may (c.step-took.ensures.took c.if-prove.false) (c.lines_are_by_one.ensures plan (snapshot_of_run c.args.run.now))
