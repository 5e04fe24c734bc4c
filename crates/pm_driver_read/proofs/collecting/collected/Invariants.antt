use Rattle.std.proofs.Common.{◌≡◌, [], drop}
use Rattle.pm_driver_read.specs.Programs.{collected}
use Rattle.pm_driver_read.proofs.collecting.collected.Given as goal

abbrev pub invariant-loop-caller : goal.invariant-loop-caller
invariant-loop-caller l = collected l.kind l.names.items (drop l.caller-index l.scripts) ≡ collected l.kind [] l.scripts
