use Rattle.pm_laws.proofs.turns.order.starts.Goals as goal
use Rattle.pm_laws.proofs.turns.Touching.{timer_rests, work_rests}

pub returns-clause-works : goal.returns-clause-works
returns-clause-works c = work_rests

pub returns-clause-timers : goal.returns-clause-timers
returns-clause-timers c = timer_rests
