use Rattle.pm_laws.proofs.safe.bonds.supplier_stays.Goals as goal
use Rattle.pm_laws.proofs.safe.Suppliers as proof

pub returns : goal.returns
returns c = λ plan h l row lawful is. proof.supplier_stays plan h l row lawful is
