use Rattle.pm_laws.proofs.turns.stuck.serial_ends.Goals as goal
use Rattle.pm_laws.proofs.turns.Ending as proof
use Rattle.pm_model.proofs.SerialLemmas.{goes_on_lawful}

pub returns-clause-lawful : goal.returns-clause-lawful
returns-clause-lawful c = goes_on_lawful

pub returns-clause-ends : goal.returns-clause-ends
returns-clause-ends c = proof.goes_to_end

pub returns-clause-whole : goal.returns-clause-whole
returns-clause-whole c = proof.serial_whole
