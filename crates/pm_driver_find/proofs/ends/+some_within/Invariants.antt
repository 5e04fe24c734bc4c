use Rattle.std.proofs.Common.{length}
use Rattle.pm_driver_find.proofs.ends.+some_within.Given as goal

abbrev pub decreases-some_within : goal.decreases-some_within
decreases-some_within l = length l.callers.now
