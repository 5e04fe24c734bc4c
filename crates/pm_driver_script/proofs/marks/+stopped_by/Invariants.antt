use Rattle.std.proofs.Common.{length}
use Rattle.pm_driver_script.proofs.marks.+stopped_by.Given as goal

abbrev pub decreases-stopped_by : goal.decreases-stopped_by
decreases-stopped_by l = length l.list.now
