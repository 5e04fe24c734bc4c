use Rattle.pm_laws.proofs.bounds.due_moments.Goals as goal
use Rattle.pm_laws.proofs.bounds.Due as proof
use Rattle.pm_laws.proofs.bounds.Rising.{within_lines}

pub returns-clause-due : goal.returns-clause-due
returns-clause-due c = proof.stands_due

pub returns-clause-timers : goal.returns-clause-timers
returns-clause-timers c = proof.armed_soon

pub returns-clause-busy : goal.returns-clause-busy
returns-clause-busy c = λ plan h d lawful. (within_lines plan h lawful d).1
