use Rattle.std.proofs.Common.{length}
use Rattle.pm_driver_find.proofs.leftovers.+sets_up.Given as goal

abbrev pub decreases-sets_up : goal.decreases-sets_up
decreases-sets_up l = length l.callers.now
