-- By computing the run.
use Rattle.std.proofs.Common.{refl}
use Rattle.pm_show_runs.proofs.CallTable.{call_table}
use Rattle.pm_show_runs.proofs.promises.Deciding.{one_call}
use Rattle.pm_show_runs.proofs.promises.gets.three_generations.Goals as goal

pub returns-clause-call : goal.returns-clause-call
unfolding call_table
returns-clause-call c = one_call _ _ _ refl

pub returns-clause-own : goal.returns-clause-own
unfolding call_table
returns-clause-own c = refl

pub returns-clause-parent : goal.returns-clause-parent
unfolding call_table
returns-clause-parent c = refl

pub returns-clause-above : goal.returns-clause-above
unfolding call_table
returns-clause-above c = refl
