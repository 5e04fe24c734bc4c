use Rattle.std.proofs.Common.{◌≡◌, ◌++◌, drop, filter}
use Rattle.pm_driver_script.specs.Places.{is_end}
use Rattle.pm_driver_script.proofs.program.ends_in.Given as goal

abbrev pub invariant-loop-standing : goal.invariant-loop-standing
invariant-loop-standing l = l.ends.items ++ filter (λ s. is_end s.goal) (drop l.standing-index l.found) ≡ filter (λ s. is_end s.goal) l.found
