-- By computing the whole run.
use Rattle.std.proofs.Common.{refl}
use Rattle.pm_show_runs.proofs.CallTable.{call_table}
use Rattle.pm_show_runs.proofs.promises.reasons.parent_and_child.Goals as goal

pub returns-clause-parent : goal.returns-clause-parent
unfolding call_table
returns-clause-parent c = refl

pub returns-clause-child : goal.returns-clause-child
unfolding call_table
returns-clause-child c = refl
