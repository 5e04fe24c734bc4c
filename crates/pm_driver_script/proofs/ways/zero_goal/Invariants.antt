use Rattle.std.proofs.Common.{◌≡◌, drop}
use Rattle.pm_driver_script.specs.Ways.{zero_goal}
use Rattle.pm_driver_script.proofs.ways.zero_goal.Given as goal

abbrev pub invariant-loop-exit : goal.invariant-loop-exit
invariant-loop-exit l = zero_goal l.number l.behind (drop l.exit-index l.exits) ≡ zero_goal l.number l.behind l.exits
