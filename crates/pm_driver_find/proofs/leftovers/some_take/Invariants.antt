use Rattle.std.proofs.Common.{◌≡◌, false, take}
use Rattle.std.specs.List.{list_any}
use Rattle.pm_driver_find.specs.Leftovers.{takes}
use Rattle.pm_driver_find.proofs.leftovers.some_take.Given as goal

abbrev pub invariant-loop-place : goal.invariant-loop-place
invariant-loop-place l = list_any (takes l.marks l.dev) (take l.place-index l.places) ≡ false
