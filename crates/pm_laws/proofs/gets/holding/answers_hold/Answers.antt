use Rattle.pm_laws.proofs.gets.holding.answers_hold.Goals as goal
use Rattle.pm_laws.proofs.gets.Keeping as proof

pub returns : goal.returns
returns c = λ plan h a d lawful answered counts. (proof.keeps plan h lawful).answered a d answered counts
