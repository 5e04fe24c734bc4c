use Rattle.std.proofs.Common.{length}
use Rattle.pm_driver_rules.proofs.going_on.+goes_by.Given as goal

abbrev pub decreases-goes_by : goal.decreases-goes_by
decreases-goes_by l = length l.exits.now
