use Rattle.pm_laws.proofs.islands.islands_run_apart.Goals as goal
use Rattle.pm_laws.proofs.islands.Standing.{own_are_lawful}

pub returns : goal.returns
returns c = λ plan. own_are_lawful plan
