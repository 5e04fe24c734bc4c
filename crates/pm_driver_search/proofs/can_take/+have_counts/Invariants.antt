use Rattle.std.proofs.Common.{length}
use Rattle.pm_driver_search.proofs.can_take.+have_counts.Given as goal

abbrev pub decreases-have_counts : goal.decreases-have_counts
decreases-have_counts l = length l.devices.now
