use Rattle.std.proofs.Common.{◌≡◌, ◌&&◌, false, take}
use Rattle.std.specs.List.{list_any}
use Rattle.pm_driver_script.specs.declared.program.PlaceExit.{PlaceExit}
use Rattle.pm_driver_find.specs.Ahead.{is_marked}
use Rattle.pm_driver_find.specs.Suspects.{is_for_failures}
use Rattle.pm_driver_find.proofs.suspects.some_failure_marked.Given as goal

abbrev pub invariant-loop-exit : goal.invariant-loop-exit
invariant-loop-exit l = list_any (λ (x : PlaceExit). is_for_failures x && is_marked l.marks x.to) (take l.exit-index l.exits) ≡ false
