use Rattle.pm_explore.proofs.successors.Near.{line_near, moment_near}
use Rattle.pm_explore.proofs.successors.laws.times_are_near.Goals as goal

pub returns-clause-moments : goal.returns-clause-moments
returns-clause-moments c = λ pace plan h t lawful is.
    moment_near plan h
    (record { due = λ a s stands. c.due_moments.ensures.due plan h a s lawful stands; delays = c.delays_are_bounded.ensures plan h lawful; busy = λ d. c.due_moments.ensures.busy plan h d lawful }) pace t is

pub returns-clause-lines : goal.returns-clause-lines
returns-clause-lines c = λ pace plan h line lawful is.
    line_near plan h
    (record { due = λ a s stands. c.due_moments.ensures.due plan h a s lawful stands; delays = c.delays_are_bounded.ensures plan h lawful; busy = λ d. c.due_moments.ensures.busy plan h d lawful }) pace line is
