use Rattle.pm_laws.proofs.turns.order.waiters.Goals as goal
use Rattle.pm_laws.proofs.turns.Telling.{all_shown}

pub returns : goal.returns
returns c = all_shown
