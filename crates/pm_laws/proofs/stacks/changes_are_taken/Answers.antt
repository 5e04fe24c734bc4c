use Rattle.pm_laws.proofs.stacks.changes_are_taken.Goals as goal
use Rattle.pm_laws.proofs.stacks.Fitting as proof

pub returns : goal.returns
returns c = λ plan h line lawful p room. proof.lines_change plan h line lawful p room
