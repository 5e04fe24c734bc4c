use Rattle.std.proofs.Common.{length}
use Rattle.pm_driver_report.proofs.report.+push_all_placed.Given as goal

abbrev pub decreases-push_all_placed : goal.decreases-push_all_placed
decreases-push_all_placed l = length l.all.now
