-- By computing each test of the whole run.
use Rattle.std.proofs.Common.{refl}
use Rattle.pm_show_runs.proofs.CallTable.{call_table}
use Rattle.pm_show_runs.specs.Requests.{deferred_resume_plan}
use Rattle.pm_show_runs.proofs.promises.Followed.{keeps_all}
use Rattle.pm_show_runs.proofs.promises.kept.deferred_resume.Goals as goal

pub returns : goal.returns
unfolding call_table
returns c = keeps_all deferred_resume_plan refl refl refl refl refl
