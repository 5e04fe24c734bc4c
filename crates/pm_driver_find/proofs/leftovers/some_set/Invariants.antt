use Rattle.std.proofs.Common.{◌≡◌, false, take}
use Rattle.std.specs.List.{list_any}
use Rattle.pm_driver_find.specs.Leftovers.{sets}
use Rattle.pm_driver_find.proofs.leftovers.some_set.Given as goal

abbrev pub invariant-loop-place : goal.invariant-loop-place
invariant-loop-place l = list_any (sets l.setting l.dev l.lines) (take l.place-index l.places) ≡ false
