-- Each by computing what the call table gives at that place.
use Rattle.std.proofs.Common.{refl}
use Rattle.pm_show_runs.proofs.CallTable.{call_table}
use Rattle.pm_show_runs.proofs.RefusalLemmas.{refused}
use Rattle.pm_show_runs.proofs.refusals.wrong_steps.Goals as goal

pub returns-clause-in_use : goal.returns-clause-in_use
unfolding call_table
returns-clause-in_use c = refused _ _ _ _ refl refl

pub returns-clause-with_error : goal.returns-clause-with_error
unfolding call_table
returns-clause-with_error c = refused _ _ _ _ refl refl

pub returns-clause-forbidden_count : goal.returns-clause-forbidden_count
unfolding call_table
returns-clause-forbidden_count c = refused _ _ _ _ refl refl

pub returns-clause-busy_as_error : goal.returns-clause-busy_as_error
unfolding call_table
returns-clause-busy_as_error c = refused _ _ _ _ refl refl

pub returns-clause-without_parent : goal.returns-clause-without_parent
unfolding call_table
returns-clause-without_parent c = refused _ _ _ _ refl refl
