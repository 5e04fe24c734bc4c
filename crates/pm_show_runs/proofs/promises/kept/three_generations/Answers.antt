-- By computing each test of the whole run.
use Rattle.std.proofs.Common.{refl}
use Rattle.pm_show_runs.proofs.CallTable.{call_table}
use Rattle.pm_show_runs.specs.Parents.{parents_plan}
use Rattle.pm_show_runs.proofs.promises.Followed.{keeps_all}
use Rattle.pm_show_runs.proofs.promises.kept.three_generations.Goals as goal

pub returns : goal.returns
unfolding call_table
returns c = keeps_all parents_plan refl refl refl refl refl
