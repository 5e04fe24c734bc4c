use Rattle.std.proofs.Common.{length}
use Rattle.pm_driver_find.proofs.ends.+may_call_on.Given as goal

abbrev pub decreases-may_call_on : goal.decreases-may_call_on
decreases-may_call_on l = length l.counted.now
