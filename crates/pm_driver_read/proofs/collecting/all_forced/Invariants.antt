use Rattle.std.proofs.Common.{◌≡◌, [], drop}
use Rattle.pm_driver_read.specs.Programs.{all_forced}
use Rattle.pm_driver_read.proofs.collecting.all_forced.Given as goal

abbrev pub invariant-loop-caller : goal.invariant-loop-caller
invariant-loop-caller l = all_forced l.forced.items (drop l.caller-index l.scripts) ≡ all_forced [] l.scripts
