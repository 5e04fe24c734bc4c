use Rattle.pm_laws.proofs.counts.sizes.Goals as goal
use Rattle.pm_laws.proofs.counts.Runs.{lawful_holds}

pub returns-clause-entries : goal.returns-clause-entries
returns-clause-entries c = λ plan h lawful. let all = lawful_holds plan h lawful in all.entries

pub returns-clause-places : goal.returns-clause-places
returns-clause-places c = λ plan h lawful. let all = lawful_holds plan h lawful in all.places
