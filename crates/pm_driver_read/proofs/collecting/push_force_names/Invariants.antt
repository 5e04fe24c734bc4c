use Rattle.std.proofs.Common.{◌≡◌, ◌++◌}
use Rattle.pm_driver_read.specs.Managed.{force_names}
use Rattle.pm_driver_read.proofs.collecting.push_force_names.Given as goal

abbrev pub invariant-loop-place : goal.invariant-loop-place
invariant-loop-place l = l.names.items ≡ l.fn.names.items ++ force_names l.place
