use Rattle.std.proofs.Common.{length}
use Rattle.pm_driver_report.proofs.rules.+push_rules.Given as goal

abbrev pub decreases-push_rules : goal.decreases-push_rules
decreases-push_rules l = length l.callers.now
