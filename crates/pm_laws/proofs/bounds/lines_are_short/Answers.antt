use Rattle.pm_laws.proofs.bounds.lines_are_short.Goals as goal
use Rattle.pm_laws.proofs.bounds.OfPlan as proof

pub returns-clause-next : goal.returns-clause-next
returns-clause-next c = proof.next_short

pub returns-clause-all : goal.returns-clause-all
returns-clause-all c = proof.all_short
