use Rattle.pm_laws.proofs.counts.one_owner.Goals as goal
use Rattle.pm_laws.proofs.counts.Runs.{lawful_holds}

pub returns : goal.returns
returns c = λ plan h lawful. let all = lawful_holds plan h lawful in all.owners
