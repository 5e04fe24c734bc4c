use Rattle.pm_laws.proofs.safe.bonds.held_is_runtime.Goals as goal
use Rattle.pm_laws.proofs.safe.Links as proof

pub returns : goal.returns
returns c = λ plan h l row lawful is. (proof.links_hold plan h l row lawful is).runtime
