use Rattle.pm_laws.proofs.islands.merge_is_lawful.Goals as goal
use Rattle.pm_laws.proofs.islands.MergedLists as proof

pub returns-clause-lawful : goal.returns-clause-lawful
returns-clause-lawful c = λ plan. proof.merge_is_lawful plan

pub returns-clause-finished : goal.returns-clause-finished
returns-clause-finished c = λ plan. proof.merge_is_finished plan
