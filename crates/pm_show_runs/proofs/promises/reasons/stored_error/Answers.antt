-- By computing the run.
use Rattle.std.proofs.Common.{refl}
use Rattle.pm_show_runs.proofs.CallTable.{call_table}
use Rattle.pm_show_runs.proofs.promises.reasons.stored_error.Goals as goal

pub returns : goal.returns
unfolding call_table
returns c = refl
