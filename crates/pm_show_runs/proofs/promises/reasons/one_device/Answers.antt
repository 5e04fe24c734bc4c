-- By computing the whole runs.
use Rattle.std.proofs.Common.{refl}
use Rattle.pm_show_runs.proofs.CallTable.{call_table}
use Rattle.pm_show_runs.proofs.promises.reasons.one_device.Goals as goal

pub returns-clause-free : goal.returns-clause-free
unfolding call_table
returns-clause-free c = refl

pub returns-clause-disabled : goal.returns-clause-disabled
unfolding call_table
returns-clause-disabled c = refl
