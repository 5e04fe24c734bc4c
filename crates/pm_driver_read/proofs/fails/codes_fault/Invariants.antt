use Rattle.std.proofs.Common.{◌≡◌, drop}
use Rattle.pm_driver_read.specs.Fails.{codes_fault}
use Rattle.pm_driver_read.proofs.fails.codes_fault.Given as goal

abbrev pub invariant-loop-device : goal.invariant-loop-device
invariant-loop-device l = codes_fault l.device (drop l.device l.rows) ≡ codes_fault 0 l.rows
