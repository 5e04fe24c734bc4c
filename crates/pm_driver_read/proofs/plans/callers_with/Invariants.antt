use Rattle.std.proofs.Common.{◌≡◌, ◌++◌, drop}
use Rattle.pm_driver_read.specs.Plans.{callers_with}
use Rattle.pm_driver_read.proofs.plans.callers_with.Given as goal

abbrev pub invariant-loop-caller : goal.invariant-loop-caller
invariant-loop-caller l = l.made.items ++ callers_with l.programs l.caller (drop l.caller l.rows) ≡ callers_with l.programs 0 l.rows
