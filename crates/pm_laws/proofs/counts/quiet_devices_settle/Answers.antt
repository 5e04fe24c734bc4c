use Rattle.pm_laws.proofs.counts.quiet_devices_settle.Goals as goal
use Rattle.pm_laws.proofs.counts.Runs.{lawful_holds}

pub returns : goal.returns
returns c = λ plan h d lawful. let all = lawful_holds plan h lawful in all.settled d
