-- By computing the whole run.
use Rattle.std.proofs.Common.{refl}
use Rattle.pm_show_runs.proofs.CallTable.{call_table}
use Rattle.pm_show_runs.proofs.promises.findings.disabled_get.Goals as goal

pub returns-clause-finished : goal.returns-clause-finished
unfolding call_table
returns-clause-finished c = refl

pub returns-clause-unfinished : goal.returns-clause-unfinished
unfolding call_table
returns-clause-unfinished c = refl
