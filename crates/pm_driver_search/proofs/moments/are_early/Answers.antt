use Rattle.pm_driver_search.proofs.MomentLemmas.{line_early, moment_early}
use Rattle.pm_driver_search.proofs.moments.are_early.Goals as goal

pub returns-then-are_due_early-clause-moments : goal.returns-then-are_due_early-clause-moments
returns-then-are_due_early-clause-moments c = λ is pace t m.
    moment_early c.args.plan.now c.args.state.now.world c.args.last c.args.actors.now c.requires.actors c.requires.in_time (c.are_due_early.ensures c.if-are_due_early.true) (c.expire_early.ensures is) pace t m

pub returns-then-are_due_early-clause-lines : goal.returns-then-are_due_early-clause-lines
returns-then-are_due_early-clause-lines c = λ is line pace may timely.
    line_early c.args.plan.now c.args.state.now.world c.args.last c.args.actors.now c.requires.actors c.requires.in_time (c.are_due_early.ensures c.if-are_due_early.true) (c.expire_early.ensures is) c.requires.entries c.requires.places line pace may timely
