use Rattle.pm_laws.proofs.turns.order.settles.Goals as goal
use Rattle.pm_laws.proofs.turns.Touching.{settled}

pub returns : goal.returns
returns c = settled
