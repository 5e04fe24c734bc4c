use Rattle.std.proofs.Common.{length}
use Rattle.pm_driver_find.proofs.suspects.+push_places.Given as goal

abbrev pub decreases-push_places : goal.decreases-push_places
decreases-push_places l = length l.places.now
