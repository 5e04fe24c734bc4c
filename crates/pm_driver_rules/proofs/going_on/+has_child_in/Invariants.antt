use Rattle.std.proofs.Common.{length}
use Rattle.pm_driver_rules.proofs.going_on.+has_child_in.Given as goal

abbrev pub decreases-has_child_in : goal.decreases-has_child_in
decreases-has_child_in l = length l.rows.now
