use Rattle.std.proofs.Common.{length}
use Rattle.pm_driver_read.proofs.fails.+fails_read.Given as goal

abbrev pub decreases-fails_read : goal.decreases-fails_read
decreases-fails_read l = length l.texts.now
