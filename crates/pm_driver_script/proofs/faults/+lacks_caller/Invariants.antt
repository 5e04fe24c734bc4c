use Rattle.std.proofs.Common.{length}
use Rattle.pm_driver_script.proofs.faults.+lacks_caller.Given as goal

abbrev pub decreases-lacks_caller : goal.decreases-lacks_caller
decreases-lacks_caller l = length l.list.now
