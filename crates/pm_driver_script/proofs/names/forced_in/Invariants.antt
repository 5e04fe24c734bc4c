use Rattle.std.proofs.Common.{◌≡◌, drop}
use Rattle.pm_driver_script.specs.Names.{forced_from}
use Rattle.pm_driver_script.proofs.names.forced_in.Given as goal

abbrev pub invariant-loop-step : goal.invariant-loop-step
invariant-loop-step l = forced_from l.forced.items (drop l.step-index l.steps) ≡ forced_from l.initial.forced.items l.steps
