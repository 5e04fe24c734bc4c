use Rattle.pm_explore.proofs.schedule.Serially.{serial_is}
use Rattle.pm_explore.proofs.schedule.serial_is_a_schedule.Goals as goal

pub returns : goal.returns
returns c = λ plan. serial_is plan
