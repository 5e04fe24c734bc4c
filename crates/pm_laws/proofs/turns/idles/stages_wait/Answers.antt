use Rattle.pm_laws.proofs.turns.idles.stages_wait.Goals as goal
use Rattle.pm_laws.proofs.turns.Acting.{waits_told}

pub returns : goal.returns
returns c = waits_told
