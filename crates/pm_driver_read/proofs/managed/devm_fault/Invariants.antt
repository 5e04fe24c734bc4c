use Rattle.std.proofs.Common.{◌≡◌, drop}
use Rattle.pm_driver_read.specs.Managed.{devm_fault}
use Rattle.pm_driver_read.proofs.managed.devm_fault.Given as goal

abbrev pub invariant-loop-number : goal.invariant-loop-number
invariant-loop-number l = devm_fault l.number (drop l.number l.scripts) ≡ devm_fault 0 l.scripts
