use Rattle.pm_laws.proofs.counts.finished_is_final.Goals as goal
use Rattle.pm_laws.proofs.counts.Finals.{nothing_follows}

pub returns : goal.returns
returns c = nothing_follows
