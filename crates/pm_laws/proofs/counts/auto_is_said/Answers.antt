use Rattle.pm_laws.proofs.counts.auto_is_said.Goals as goal
use Rattle.pm_laws.proofs.counts.Said.{auto_said}

pub returns : goal.returns
returns c = auto_said
