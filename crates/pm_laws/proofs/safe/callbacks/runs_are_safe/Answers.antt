use Rattle.pm_laws.proofs.safe.callbacks.runs_are_safe.Goals as goal
use Rattle.pm_laws.proofs.safe.Safe as proof

pub returns : goal.returns
returns c = λ plan h lawful. proof.safe plan h lawful
