use Rattle.std.proofs.Common.{◌≡◌, ◌+◌, ◌++◌, drop}
use Rattle.pm_driver_script.specs.Ways.{get_exits}
use Rattle.pm_driver_script.proofs.ways.get_exits.Given as goal

abbrev pub invariant-loop-exit : goal.invariant-loop-exit
invariant-loop-exit l = record {
  rest : l.made.items ++ get_exits l.number l.part (drop l.exit-index l.exits) ≡ get_exits l.number 1 l.exits;
  part : l.part ≡ l.exit-index + 1;
}
