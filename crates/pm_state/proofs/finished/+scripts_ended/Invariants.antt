use Rattle.std.proofs.Common.{length}
use Rattle.pm_state.proofs.finished.+scripts_ended.Given as goal

abbrev pub decreases-scripts_ended : goal.decreases-scripts_ended
decreases-scripts_ended l = length l.rows.now
