use Rattle.pm_laws.proofs.safe.kinds.lines_are_of_kinds.Goals as goal
use Rattle.pm_laws.proofs.safe.Lines as proof

pub returns : goal.returns
returns c = λ plan h line lawful. proof.line_kind plan h line lawful
