use Rattle.std.proofs.Common.{length}
use Rattle.pm_driver_rules.proofs.guards.+is_free.Given as goal

abbrev pub decreases-is_free : goal.decreases-is_free
decreases-is_free l = length l.callers.now
