use Rattle.std.proofs.Common.{◌≡◌, ◌++◌, drop, map}
use Rattle.pm_driver_find.specs.Ahead.{comes_to}
use Rattle.pm_driver_find.proofs.ahead.marks_next.Given as goal

abbrev pub invariant-loop-place : goal.invariant-loop-place
invariant-loop-place l = l.out.items ++ map (comes_to l.aim l.marks) (drop l.place-index l.places) ≡ map (comes_to l.aim l.marks) l.places
