use Rattle.std.proofs.Common.{◌≡◌, false, take}
use Rattle.std.specs.List.{list_any}
use Rattle.pm_driver_find.specs.Suspects.{is_for_failures}
use Rattle.pm_driver_find.proofs.suspects.some_for_failures.Given as goal

abbrev pub invariant-loop-exit : goal.invariant-loop-exit
invariant-loop-exit l = list_any is_for_failures (take l.exit-index l.exits) ≡ false
