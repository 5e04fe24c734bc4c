-- Each by computing what the call table gives at that place.
use Rattle.std.proofs.Common.{refl}
use Rattle.pm_show_runs.proofs.CallTable.{call_table}
use Rattle.pm_show_runs.proofs.RefusalLemmas.{refused}
use Rattle.pm_show_runs.proofs.refusals.after_the_end.Goals as goal

pub returns-clause-finished : goal.returns-clause-finished
unfolding call_table
returns-clause-finished c = refused _ _ _ _ refl refl

pub returns-clause-limit : goal.returns-clause-limit
unfolding call_table
returns-clause-limit c = refused _ _ _ _ refl refl
