use Rattle.pm_laws.proofs.counts.usage_adds_up.Goals as goal
use Rattle.pm_laws.proofs.counts.Runs.{lawful_holds}

pub returns : goal.returns
returns c = λ plan h lawful. let all = lawful_holds plan h lawful in all.counts
