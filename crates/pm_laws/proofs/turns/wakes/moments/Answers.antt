use Rattle.pm_laws.proofs.turns.wakes.moments.Goals as goal
use Rattle.pm_laws.proofs.turns.Waking.{actor_timed}

pub returns-clause-may : goal.returns-clause-may
returns-clause-may c = λ plan w t a. (actor_timed plan w t a).0

pub returns-clause-late : goal.returns-clause-late
returns-clause-late c = λ plan w t a. (actor_timed plan w t a).1
