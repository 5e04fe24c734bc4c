use Rattle.std.proofs.Common.{length}
use Rattle.pm_driver_report.proofs.lines.+list_told.Given as goal

abbrev pub decreases-list_told : goal.decreases-list_told
decreases-list_told l = length l.told.now
