use Rattle.std.proofs.Common.{◌≡◌, ◌++◌}
use Rattle.pm_outcomes.specs.kernel_log.Placing.{devices_to}
use Rattle.pm_outcomes.proofs.kernel_log.placing.push_devices.Given as goal

abbrev pub invariant-loop-device : goal.invariant-loop-device
invariant-loop-device l = l.all.items ≡ l.initial.all.items ++ devices_to l.device
