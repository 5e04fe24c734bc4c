use Rattle.std.proofs.Common.{length}
use Rattle.pm_driver_find.proofs.leftovers.+push_devices.Given as goal

abbrev pub decreases-push_devices : goal.decreases-push_devices
decreases-push_devices l = length l.rows.now
