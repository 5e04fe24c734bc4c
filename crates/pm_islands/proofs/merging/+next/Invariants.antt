use Rattle.std.proofs.Common.{length}
use Rattle.pm_islands.proofs.merging.+next.Given as goal

abbrev pub decreases-next : goal.decreases-next
decreases-next l = length l.lists.now
