-- By the event at each of the moments.
use Rattle.pm_laws.specs.bounds.Times.{moments}
use Rattle.pm_laws.proofs.bounds.Deciding.{found, some_time}
use Rattle.pm_laws.proofs.bounds.times.decision.Goals as goal

pub returns-clause-found : goal.returns-clause-found
returns-clause-found c = found

pub returns-clause-sound : goal.returns-clause-sound
returns-clause-sound c = λ plan h line t p. some_time plan h line t (moments plan h line) p
