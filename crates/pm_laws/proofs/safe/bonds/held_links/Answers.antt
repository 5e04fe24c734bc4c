use Rattle.pm_laws.proofs.safe.bonds.held_links.Goals as goal
use Rattle.pm_laws.proofs.safe.Links as proof

pub returns-clause-none : goal.returns-clause-none
returns-clause-none c = λ plan h l row lawful is. (proof.links_hold plan h l row lawful is).none

pub returns-clause-all : goal.returns-clause-all
returns-clause-all c = λ plan h l row lawful is. proof.needed_held plan h l row lawful is
