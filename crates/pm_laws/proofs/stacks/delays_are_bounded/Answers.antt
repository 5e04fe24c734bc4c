use Rattle.pm_laws.proofs.stacks.delays_are_bounded.Goals as goal
use Rattle.pm_laws.proofs.stacks.Fitting as proof

pub returns : goal.returns
returns c = λ plan h lawful. proof.delays_kept plan h lawful
