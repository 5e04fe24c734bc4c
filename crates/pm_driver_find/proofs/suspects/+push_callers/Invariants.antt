use Rattle.std.proofs.Common.{length}
use Rattle.pm_driver_find.proofs.suspects.+push_callers.Given as goal

abbrev pub decreases-push_callers : goal.decreases-push_callers
decreases-push_callers l = length l.callers.now
