-- Each by computing what the call table gives at that place.
use Rattle.std.proofs.Common.{refl}
use Rattle.pm_show_runs.proofs.CallTable.{call_table}
use Rattle.pm_show_runs.proofs.RefusalLemmas.{refused}
use Rattle.pm_show_runs.proofs.refusals.wrong_order.Goals as goal

pub returns-clause-swapped : goal.returns-clause-swapped
unfolding call_table
returns-clause-swapped c = refused _ _ _ _ refl refl

pub returns-clause-left_out : goal.returns-clause-left_out
unfolding call_table
returns-clause-left_out c = refused _ _ _ _ refl refl

pub returns-clause-given_back_early : goal.returns-clause-given_back_early
unfolding call_table
returns-clause-given_back_early c = refused _ _ _ _ refl refl

pub returns-clause-begun_early : goal.returns-clause-begun_early
unfolding call_table
returns-clause-begun_early c = refused _ _ _ _ refl refl
