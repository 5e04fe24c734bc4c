use Rattle.std.proofs.Common.{length}
use Rattle.pm_driver_report.proofs.passes.+go_on_through.Given as goal

abbrev pub decreases-go_on_through : goal.decreases-go_on_through
decreases-go_on_through l = length l.asked.now
