use Rattle.std.proofs.Common.{length}
use Rattle.pm_driver_find.proofs.sights.+some_child_on.Given as goal

abbrev pub decreases-some_child_on : goal.decreases-some_child_on
decreases-some_child_on l = length l.rows.now
