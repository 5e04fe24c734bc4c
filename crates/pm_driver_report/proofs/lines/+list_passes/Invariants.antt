use Rattle.std.proofs.Common.{length}
use Rattle.pm_driver_report.proofs.lines.+list_passes.Given as goal

abbrev pub decreases-list_passes : goal.decreases-list_passes
decreases-list_passes l = length l.passes.now
