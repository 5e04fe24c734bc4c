use Rattle.std.proofs.Common.{◌≡◌, drop}
use Rattle.pm_driver_script.specs.Faults.{fault_from}
use Rattle.pm_driver_script.proofs.faults.script_fault.Given as goal

abbrev pub invariant-loop-number : goal.invariant-loop-number
invariant-loop-number l = fault_from l.names l.steps l.number (drop l.number l.steps) ≡ fault_from l.names l.steps 0 l.steps
