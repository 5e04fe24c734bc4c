use Rattle.pm_laws.proofs.bounds.calls_are_bounded.Goals as goal
use Rattle.pm_laws.proofs.bounds.Called as proof
use Rattle.pm_laws.proofs.bounds.Limits.{few_commands}

pub returns-clause-called : goal.returns-clause-called
returns-clause-called c = proof.called_bounded

pub returns-clause-script : goal.returns-clause-script
returns-clause-script c = few_commands

pub returns-clause-next : goal.returns-clause-next
returns-clause-next c = proof.next_called
