use Rattle.std.proofs.Common.{◌≡◌, drop}
use Rattle.pm_driver_script.specs.Names.{names_from}
use Rattle.pm_driver_script.proofs.names.names_in.Given as goal

abbrev pub invariant-loop-step : goal.invariant-loop-step
invariant-loop-step l = names_from l.kind l.names.items (drop l.step-index l.steps) ≡ names_from l.kind l.initial.names.items l.steps
