use Rattle.std.proofs.Common.{length}
use Rattle.pm_islands.proofs.parts.+put_callers.Given as goal

abbrev pub decreases-put_callers : goal.decreases-put_callers
decreases-put_callers l = length l.rows.now
