use Rattle.pm_laws.proofs.counts.status_is_said.Goals as goal
use Rattle.pm_laws.proofs.counts.Said.{status_said}

pub returns : goal.returns
returns c = status_said
