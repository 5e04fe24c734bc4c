use Rattle.pm_outcomes.proofs.paths.Actors.{actors_in_range}
use Rattle.pm_outcomes.proofs.paths.RunLemmas.{in_time, last_in_range, sized}
use Rattle.pm_outcomes.proofs.paths.next.lines_of.Goals as goal

pub next_lines-requires-clause-in_range : goal.next_lines-requires-clause-in_range
next_lines-requires-clause-in_range c = actors_in_range c.args.plan.now c.args.actors.now c.requires.actors

pub next_lines-requires-clause-last_in_range : goal.next_lines-requires-clause-last_in_range
next_lines-requires-clause-last_in_range c = last_in_range c.args.plan.now c.args.run.now c.requires.run (c.sizes.ensures.entries c.args.plan.now) (c.sizes.ensures.places c.args.plan.now)

pub next_lines-requires-clause-in_time : goal.next_lines-requires-clause-in_time
next_lines-requires-clause-in_time c = λ t is.
    let k = c.requires.run in
    in_time c.args.pace c.args.plan.now c.args.run.now t k (c.times_are_near.ensures.moments c.args.pace c.args.plan.now) (c.lines_are_bounded.ensures c.args.plan.now k.list k.lawful) is

pub next_lines-requires-clause-entries : goal.next_lines-requires-clause-entries
next_lines-requires-clause-entries c =
    let plan = c.args.plan.now in
    let k = c.requires.run in
    (sized plan c.args.run.now k (c.sizes.ensures.entries plan k.list k.lawful) (c.sizes.ensures.places plan k.list k.lawful)).entries

pub next_lines-requires-clause-places : goal.next_lines-requires-clause-places
next_lines-requires-clause-places c =
    let plan = c.args.plan.now in
    let k = c.requires.run in
    (sized plan c.args.run.now k (c.sizes.ensures.entries plan k.list k.lawful) (c.sizes.ensures.places plan k.list k.lawful)).places
