use Rattle.std.proofs.Common.{length}
use Rattle.pm_driver_read.proofs.around.+push_undos.Given as goal

abbrev pub decreases-push_undos : goal.decreases-push_undos
decreases-push_undos l = length l.steps.now
