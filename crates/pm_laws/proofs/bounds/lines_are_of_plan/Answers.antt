use Rattle.pm_laws.proofs.bounds.lines_are_of_plan.Goals as goal
use Rattle.pm_laws.proofs.bounds.OfPlan as proof

pub returns-clause-event : goal.returns-clause-event
returns-clause-event c = proof.next_event

pub returns-clause-next : goal.returns-clause-next
returns-clause-next c = proof.next_line

pub returns-clause-all : goal.returns-clause-all
returns-clause-all c = proof.all_lines
