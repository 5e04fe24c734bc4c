use Rattle.pm_explore.proofs.schedule.Paths.{lawful}
use Rattle.pm_explore.proofs.schedule.schedules_are_lawful.Goals as goal

pub returns : goal.returns
returns c = λ pace plan h o le. lawful pace plan h o le
