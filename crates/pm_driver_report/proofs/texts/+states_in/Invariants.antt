use Rattle.std.proofs.Common.{length}
use Rattle.pm_driver_report.proofs.texts.+states_in.Given as goal

abbrev pub decreases-states_in : goal.decreases-states_in
decreases-states_in l = length l.passes.now
