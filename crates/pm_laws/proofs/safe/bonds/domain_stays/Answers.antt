use Rattle.pm_laws.proofs.safe.bonds.domain_stays.Goals as goal
use Rattle.pm_laws.proofs.safe.Domains as proof

pub returns : goal.returns
returns c = λ plan h d lawful. proof.domain_stays plan h d lawful
