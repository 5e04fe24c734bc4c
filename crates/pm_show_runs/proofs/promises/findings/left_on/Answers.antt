-- By computing the whole run.
use Rattle.std.proofs.Common.{refl}
use Rattle.pm_show_runs.proofs.CallTable.{call_table}
use Rattle.pm_show_runs.proofs.promises.findings.left_on.Goals as goal

pub returns : goal.returns
unfolding call_table
returns c = refl
