use Rattle.std.proofs.Common.{◌≡◌, ◌++◌, drop}
use Rattle.pm_driver_script.specs.Ways.{labelled}
use Rattle.pm_driver_script.proofs.ways.labelled.Given as goal

abbrev pub invariant-loop-exit : goal.invariant-loop-exit
invariant-loop-exit l = l.made.items ++ labelled l.number l.behind (drop l.exit-index l.exits) ≡ labelled l.number l.behind l.exits
