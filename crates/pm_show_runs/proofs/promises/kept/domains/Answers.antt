-- By computing each test of the whole run.
use Rattle.std.proofs.Common.{refl}
use Rattle.pm_show_runs.proofs.CallTable.{call_table}
use Rattle.pm_show_runs.specs.Domains.{domains_plan}
use Rattle.pm_show_runs.proofs.promises.Followed.{keeps_all}
use Rattle.pm_show_runs.proofs.promises.kept.domains.Goals as goal

pub returns-clause-keeps : goal.returns-clause-keeps
unfolding call_table
returns-clause-keeps c = keeps_all domains_plan refl refl refl refl refl
