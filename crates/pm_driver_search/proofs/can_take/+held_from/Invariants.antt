use Rattle.std.proofs.Common.{length}
use Rattle.pm_driver_search.proofs.can_take.+held_from.Given as goal

abbrev pub decreases-held_from : goal.decreases-held_from
decreases-held_from l = length l.links.now
