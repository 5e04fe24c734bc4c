use Rattle.std.proofs.Common.{◌≡◌, ◌++◌}
use Rattle.std.specs.Vec.Iter.{into_iter_items}
use Rattle.pm_driver_read.specs.Plans.{bare_callers}
use Rattle.pm_driver_read.proofs.plans.bare_callers.Given as goal

abbrev pub invariant-loop-caller : goal.invariant-loop-caller
invariant-loop-caller l = l.made.items ++ bare_callers (into_iter_items l.caller-iterator) ≡ bare_callers l.fn.callers.items
