use Rattle.std.proofs.Common.{◌≡◌, ◌++◌, drop, filter}
use Rattle.pm_driver_script.specs.Programs.{is_place}
use Rattle.pm_driver_script.proofs.program.places_in.Given as goal

abbrev pub invariant-loop-standing : goal.invariant-loop-standing
invariant-loop-standing l = l.places.items ++ filter is_place (drop l.standing-index l.found) ≡ filter is_place l.found
