use Rattle.std.proofs.Common.{length}
use Rattle.pm_driver_report.proofs.lines.+rounds_before.Given as goal

abbrev pub decreases-rounds_before : goal.decreases-rounds_before
decreases-rounds_before l = length l.rounds.now
