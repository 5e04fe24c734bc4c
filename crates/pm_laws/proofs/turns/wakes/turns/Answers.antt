use Rattle.pm_laws.proofs.turns.wakes.turns.Goals as goal
use Rattle.pm_laws.proofs.turns.Turning.{next_is}

pub returns : goal.returns
returns c = next_is
