-- Each by computing what the call table gives at that place.
use Rattle.std.proofs.Common.{refl}
use Rattle.pm_show_runs.proofs.CallTable.{call_table}
use Rattle.pm_show_runs.proofs.RefusalLemmas.{refused}
use Rattle.pm_show_runs.proofs.refusals.wrong_times.Goals as goal

pub returns-clause-ended_early : goal.returns-clause-ended_early
unfolding call_table
returns-clause-ended_early c = refused _ _ _ _ refl refl

pub returns-clause-fired_early : goal.returns-clause-fired_early
unfolding call_table
returns-clause-fired_early c = refused _ _ _ _ refl refl

pub returns-clause-falling : goal.returns-clause-falling
unfolding call_table
returns-clause-falling c = refused _ _ _ _ refl refl
