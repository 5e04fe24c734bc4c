use Rattle.pm_laws.proofs.safe.callbacks.callbacks_run.Goals as goal
use Rattle.pm_laws.proofs.safe.Running as proof

pub returns : goal.returns
returns c = λ plan h d k lawful within owners. proof.callbacks_run plan h d k lawful within owners
