use Rattle.pm_laws.proofs.counts.held_is_said.Goals as goal
use Rattle.pm_laws.proofs.counts.Said.{held_said}

pub returns : goal.returns
returns c = held_said
