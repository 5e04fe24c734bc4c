-- By computing the runs; the merged lines are what their actors write in turn.
use Rattle.pm_show_runs.proofs.promises.Merging.{each_finishes, merge_is_lawful}
use Rattle.pm_show_runs.proofs.promises.islands.merged_runs.Goals as goal

pub returns-clause-each : goal.returns-clause-each
returns-clause-each c = each_finishes

pub returns-clause-lawful : goal.returns-clause-lawful
returns-clause-lawful c = merge_is_lawful
