use Rattle.pm_laws.proofs.gets.holding.kept.Goals as goal
use Rattle.pm_laws.proofs.gets.Keeping as proof

pub returns : goal.returns
returns c = λ plan h lawful. proof.kept plan h lawful
