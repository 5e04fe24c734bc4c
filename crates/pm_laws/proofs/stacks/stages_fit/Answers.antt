use Rattle.pm_laws.proofs.stacks.stages_fit.Goals as goal
use Rattle.pm_laws.proofs.stacks.Fitting as proof

pub returns-clause-open : goal.returns-clause-open
returns-clause-open c = λ plan h a lawful. proof.stages_fit plan h a lawful

pub returns-clause-next : goal.returns-clause-next
returns-clause-next c = λ plan h a s lawful at. proof.stands_fit plan h a s lawful at
