use Rattle.std.proofs.Common.{length}
use Rattle.pm_driver_rules.proofs.guards.+has_no_stop.Given as goal

abbrev pub decreases-has_no_stop : goal.decreases-has_no_stop
decreases-has_no_stop l = length l.callers.now
