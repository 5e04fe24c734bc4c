use Rattle.pm_laws.proofs.bounds.begins_are_counted.Goals as goal
use Rattle.pm_laws.proofs.bounds.Begun.{begins_counted}

pub returns : goal.returns
returns c = begins_counted
