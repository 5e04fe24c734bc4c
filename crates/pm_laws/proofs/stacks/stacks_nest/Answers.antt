use Rattle.pm_laws.proofs.stacks.stacks_nest.Goals as goal
use Rattle.pm_laws.proofs.stacks.Stacks as proof

pub returns : goal.returns
returns c = λ plan h lawful. proof.stacks_nest plan h lawful
