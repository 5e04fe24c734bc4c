use Rattle.pm_laws.proofs.safe.bonds.parent_stays.Goals as goal
use Rattle.pm_laws.proofs.safe.Parents as proof

pub returns-clause-stays : goal.returns-clause-stays
returns-clause-stays c = λ plan h d p lawful has. proof.parent_stays plan h d p lawful has

pub returns-clause-marked : goal.returns-clause-marked
returns-clause-marked c = λ plan h a lawful. proof.marks_held plan h a lawful
