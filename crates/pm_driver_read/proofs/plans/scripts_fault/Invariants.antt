use Rattle.std.proofs.Common.{◌≡◌, drop}
use Rattle.pm_driver_read.specs.Plans.{scripts_fault}
use Rattle.pm_driver_read.proofs.plans.scripts_fault.Given as goal

abbrev pub invariant-loop-caller : goal.invariant-loop-caller
invariant-loop-caller l = scripts_fault l.devices l.caller (drop l.caller l.programs) ≡ scripts_fault l.devices 0 l.programs
