use Rattle.std.proofs.Common.{◌≡◌, drop}
use Rattle.pm_driver_script.specs.Faults.{exits_fault}
use Rattle.pm_driver_script.proofs.faults.exits_fault.Given as goal

abbrev pub invariant-loop-exit : goal.invariant-loop-exit
invariant-loop-exit l = exits_fault l.steps l.behind (drop l.exit-index l.exits) ≡ exits_fault l.steps l.behind l.exits
