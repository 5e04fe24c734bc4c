use Rattle.std.proofs.Common.{◌≡◌, ◌++◌, length}
use Rattle.std.specs.Vec.Iter.{into_iter_items}
use Rattle.pm_driver_read.specs.Drivers.{callers_of}
use Rattle.pm_driver_read.proofs.read.callers_of.Given as goal

abbrev pub invariant-loop-program : goal.invariant-loop-program
invariant-loop-program l = l.made.items ++ callers_of l.plan.devices l.marks l.callers (length l.made.items) (into_iter_items l.program-iterator) ≡ callers_of l.plan.devices l.marks l.callers 0 l.fn.programs.items
