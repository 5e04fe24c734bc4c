use Rattle.pm_outcomes.proofs.witness.OrderLemmas.{schedules_near}
use Rattle.pm_outcomes.proofs.witness.going.schedules_are_near.Goals as goal

pub returns : goal.returns
returns c = λ pace plan h order lawful. schedules_near pace plan h (c.times_are_near.ensures.lines pace plan) order lawful
