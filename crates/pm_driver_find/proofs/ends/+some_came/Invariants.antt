use Rattle.std.proofs.Common.{length}
use Rattle.pm_driver_find.proofs.ends.+some_came.Given as goal

abbrev pub decreases-some_came : goal.decreases-some_came
decreases-some_came l = length l.callers.now
