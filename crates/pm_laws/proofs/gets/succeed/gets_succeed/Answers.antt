use Rattle.pm_laws.proofs.gets.succeed.gets_succeed.Goals as goal
use Rattle.pm_laws.proofs.gets.Succeeding as proof

pub returns : goal.returns
returns c = λ plan h lawful. proof.succeed plan h lawful
