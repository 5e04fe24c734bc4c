use Rattle.pm_laws.proofs.bounds.lines_are_taken.Goals as goal
use Rattle.pm_laws.proofs.bounds.Taken.{lines_taken}

pub returns : goal.returns
returns c = lines_taken
