use Rattle.std.proofs.Common.{◌≡◌, ◌++◌}
use Rattle.pm_driver_report.specs.Passes.{eager_parts}
use Rattle.pm_driver_report.proofs.passes.ask_for_eager.Given as goal

abbrev pub invariant-loop-failures : goal.invariant-loop-failures
invariant-loop-failures l = l.asked.items ≡ l.initial.asked.items ++ eager_parts l.failures
