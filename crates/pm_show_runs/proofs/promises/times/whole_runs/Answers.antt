-- By computing the whole run.
use Rattle.std.proofs.Common.{refl}
use Rattle.pm_show_runs.proofs.CallTable.{call_table}
use Rattle.pm_show_runs.proofs.promises.times.whole_runs.Goals as goal

pub returns-clause-autosuspend : goal.returns-clause-autosuspend
unfolding call_table
returns-clause-autosuspend c = refl

pub returns-clause-deferred : goal.returns-clause-deferred
unfolding call_table
returns-clause-deferred c = refl
