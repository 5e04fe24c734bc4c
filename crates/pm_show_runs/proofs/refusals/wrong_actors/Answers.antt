-- Each by computing what the call table gives at that place.
use Rattle.std.proofs.Common.{refl}
use Rattle.pm_show_runs.proofs.CallTable.{call_table}
use Rattle.pm_show_runs.proofs.RefusalLemmas.{refused}
use Rattle.pm_show_runs.proofs.refusals.wrong_actors.Goals as goal

pub returns-clause-other_caller : goal.returns-clause-other_caller
unfolding call_table
returns-clause-other_caller c = refused _ _ _ _ refl refl

pub returns-clause-not_a_work_item : goal.returns-clause-not_a_work_item
unfolding call_table
returns-clause-not_a_work_item c = refused _ _ _ _ refl refl

pub returns-clause-waiting : goal.returns-clause-waiting
unfolding call_table
returns-clause-waiting c = refused _ _ _ _ refl refl
