use Rattle.pm_laws.proofs.bounds.lines_are_bounded.Goals as goal
use Rattle.pm_laws.proofs.bounds.Limits.{lines_bounded}

pub returns : goal.returns
returns c = lines_bounded
