use Rattle.pm_laws.proofs.stacks.stacks_are_shallow.Goals as goal
use Rattle.pm_laws.proofs.stacks.Bottoms as proof

pub returns : goal.returns
returns c = λ plan h lawful. proof.stacks_shallow plan h lawful
