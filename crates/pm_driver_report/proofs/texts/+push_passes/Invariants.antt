use Rattle.std.proofs.Common.{length}
use Rattle.pm_driver_report.proofs.texts.+push_passes.Given as goal

abbrev pub decreases-push_passes : goal.decreases-push_passes
decreases-push_passes l = length l.passes.now
