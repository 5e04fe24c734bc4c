use Rattle.pm_laws.proofs.turns.idles.one_idle.Goals as goal
use Rattle.pm_laws.proofs.turns.Idling as proof

pub returns-clause-running : goal.returns-clause-running
returns-clause-running c = proof.one_idle

pub returns-clause-begun : goal.returns-clause-begun
returns-clause-begun c = proof.one_begun
