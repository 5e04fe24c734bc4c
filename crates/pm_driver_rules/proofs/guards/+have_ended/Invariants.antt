use Rattle.std.proofs.Common.{length}
use Rattle.pm_driver_rules.proofs.guards.+have_ended.Given as goal

abbrev pub decreases-have_ended : goal.decreases-have_ended
decreases-have_ended l = length l.callers.now
