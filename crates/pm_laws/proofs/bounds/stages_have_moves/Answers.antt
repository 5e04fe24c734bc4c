use Rattle.pm_laws.proofs.bounds.stages_have_moves.Goals as goal
use Rattle.pm_laws.proofs.bounds.Moving.{stands_moves}

pub returns : goal.returns
returns c = stands_moves
