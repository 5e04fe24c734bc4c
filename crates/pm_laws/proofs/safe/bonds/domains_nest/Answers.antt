use Rattle.pm_laws.proofs.safe.bonds.domains_nest.Goals as goal
use Rattle.pm_laws.proofs.safe.Nests as proof

pub returns-clause-parents : goal.returns-clause-parents
returns-clause-parents c = λ plan h o p lawful above on. (proof.domains_nest plan h lawful).parents o.0 p on above

pub returns-clause-always : goal.returns-clause-always
returns-clause-always c = λ plan h o lawful always. (proof.domains_nest plan h lawful).always o always
