-- By computing each test of the whole run.
use Rattle.std.proofs.Common.{refl}
use Rattle.pm_show_runs.proofs.CallTable.{call_table}
use Rattle.pm_show_runs.specs.Links.{disabled_supplier_plan}
use Rattle.pm_show_runs.proofs.promises.Followed.{keeps_all}
use Rattle.pm_show_runs.proofs.promises.kept.disabled_supplier.Goals as goal

pub returns-clause-keeps : goal.returns-clause-keeps
unfolding call_table
returns-clause-keeps c = keeps_all disabled_supplier_plan refl refl refl refl refl
