-- By computing what is left to do.
use Rattle.pm_show_runs.proofs.promises.BadLines.{run_is_finished, two_are_open}
use Rattle.pm_show_runs.proofs.promises.first_bad.yes.Goals as goal

pub returns-clause-finished : goal.returns-clause-finished
returns-clause-finished c = run_is_finished

pub returns-clause-open : goal.returns-clause-open
returns-clause-open c = two_are_open
