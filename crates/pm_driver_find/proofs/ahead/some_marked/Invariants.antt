use Rattle.std.proofs.Common.{◌≡◌, false, take}
use Rattle.std.specs.List.{list_any}
use Rattle.pm_driver_find.specs.Ahead.{is_marked}
use Rattle.pm_driver_find.proofs.ahead.some_marked.Given as goal

abbrev pub invariant-loop-at : goal.invariant-loop-at
invariant-loop-at l = list_any (is_marked l.marks) (take l.at-index l.to) ≡ false
