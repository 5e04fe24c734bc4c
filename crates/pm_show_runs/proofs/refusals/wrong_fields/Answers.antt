-- Each by computing what the call table gives at that place.
use Rattle.std.proofs.Common.{refl}
use Rattle.pm_show_runs.proofs.CallTable.{call_table}
use Rattle.pm_show_runs.proofs.RefusalLemmas.{refused}
use Rattle.pm_show_runs.proofs.refusals.wrong_fields.Goals as goal

pub returns-clause-count : goal.returns-clause-count
unfolding call_table
returns-clause-count c = refused _ _ _ _ refl refl

pub returns-clause-children : goal.returns-clause-children
unfolding call_table
returns-clause-children c = refused _ _ _ _ refl refl

pub returns-clause-code : goal.returns-clause-code
unfolding call_table
returns-clause-code c = refused _ _ _ _ refl refl

pub returns-clause-domains : goal.returns-clause-domains
unfolding call_table
returns-clause-domains c = refused _ _ _ _ refl refl

pub returns-clause-moment : goal.returns-clause-moment
unfolding call_table
returns-clause-moment c = refused _ _ _ _ refl refl
