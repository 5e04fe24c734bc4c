use Rattle.std.proofs.Common.{length}
use Rattle.pm_driver_find.proofs.leftovers.+may_keep.Given as goal

abbrev pub decreases-may_keep : goal.decreases-may_keep
decreases-may_keep l = length l.callers.now
