use Rattle.std.proofs.Common.{length}
use Rattle.pm_driver_report.proofs.follows.+pass_of.Given as goal

abbrev pub decreases-pass_of : goal.decreases-pass_of
decreases-pass_of l = length l.passes.now
