use Rattle.pm_laws.proofs.turns.stuck.never_stuck.Goals as goal
use Rattle.pm_laws.proofs.turns.Ending as proof

pub returns : goal.returns
returns c = proof.never_stuck
