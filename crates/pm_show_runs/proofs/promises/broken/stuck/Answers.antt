-- By what each actor may do there.
use Rattle.pm_show_runs.proofs.promises.Stuck.{abandoned_is_stuck}
use Rattle.pm_show_runs.proofs.promises.broken.stuck.Goals as goal

pub returns : goal.returns
returns c = abandoned_is_stuck
