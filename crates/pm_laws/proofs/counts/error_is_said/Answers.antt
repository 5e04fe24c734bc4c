use Rattle.pm_laws.proofs.counts.error_is_said.Goals as goal
use Rattle.pm_laws.proofs.counts.Said.{error_said}

pub returns : goal.returns
returns c = error_said
