use Rattle.std.proofs.Common.{◌≡◌, drop}
use Rattle.pm_driver_read.specs.Programs.{fault_from}
use Rattle.pm_driver_read.proofs.reading.first_fault.Given as goal

abbrev pub invariant-loop-number : goal.invariant-loop-number
invariant-loop-number l = fault_from l.names l.number (drop l.number l.scripts) ≡ fault_from l.names 0 l.scripts
