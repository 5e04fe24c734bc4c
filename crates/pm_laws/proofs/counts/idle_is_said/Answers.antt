use Rattle.pm_laws.proofs.counts.idle_is_said.Goals as goal
use Rattle.pm_laws.proofs.counts.Said.{idle_said}

pub returns : goal.returns
returns c = idle_said
