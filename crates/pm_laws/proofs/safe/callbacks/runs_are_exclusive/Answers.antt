use Rattle.pm_laws.proofs.safe.callbacks.runs_are_exclusive.Goals as goal
use Rattle.pm_laws.proofs.safe.Exclusive as proof

pub returns : goal.returns
returns c = λ plan h lawful. proof.exclusive plan h lawful
