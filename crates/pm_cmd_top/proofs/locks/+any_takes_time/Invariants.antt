use Rattle.std.proofs.Common.{length}
use Rattle.pm_cmd_top.proofs.locks.+any_takes_time.Given as goal

abbrev pub decreases-any_takes_time : goal.decreases-any_takes_time
decreases-any_takes_time l = length l.rows.now
