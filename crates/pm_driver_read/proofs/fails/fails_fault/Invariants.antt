use Rattle.std.proofs.Common.{◌≡◌, drop}
use Rattle.pm_driver_read.specs.Fails.{fails_fault}
use Rattle.pm_driver_read.proofs.fails.fails_fault.Given as goal

abbrev pub invariant-loop-device : goal.invariant-loop-device
invariant-loop-device l = fails_fault l.device (drop l.device l.said) ≡ fails_fault 0 l.said
