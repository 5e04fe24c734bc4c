use Rattle.pm_laws.proofs.turns.stuck.serial_stops.Goals as goal
use Rattle.pm_laws.proofs.turns.Ending as proof

pub returns-clause-turn : goal.returns-clause-turn
returns-clause-turn c = proof.turn_ends

pub returns-clause-line : goal.returns-clause-line
returns-clause-line c = proof.line_ends

pub returns-clause-finished_turn : goal.returns-clause-finished_turn
returns-clause-finished_turn c = proof.finished_turn

pub returns-clause-finished_line : goal.returns-clause-finished_line
returns-clause-finished_line c = proof.finished_line
