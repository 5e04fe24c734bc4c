use Rattle.std.proofs.Common.{◌≡◌, ◌++◌, drop, map}
use Rattle.pm_driver_find.specs.Ahead.{meets_end}
use Rattle.pm_driver_find.proofs.ahead.push_ends.Given as goal

abbrev pub invariant-loop-end : goal.invariant-loop-end
invariant-loop-end l = l.out.items ++ map (meets_end l.aim) (drop l.end-index l.ends) ≡ l.initial.out.items ++ map (meets_end l.aim) l.ends
