use Rattle.std.proofs.Common.{length}
use Rattle.pm_driver_read.proofs.around.+push_calls.Given as goal

abbrev pub decreases-push_calls : goal.decreases-push_calls
decreases-push_calls l = length l.helpers.now
