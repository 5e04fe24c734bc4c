use Rattle.pm_laws.proofs.counts.domains_are_said.Goals as goal
use Rattle.pm_laws.proofs.counts.Said.{on_said}

pub returns : goal.returns
returns c = on_said
