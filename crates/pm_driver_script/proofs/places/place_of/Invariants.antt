use Rattle.std.proofs.Common.{◌≡◌, ◌+◌, drop}
use Rattle.std.specs.List.{position_or_len}
use Rattle.pm_driver_script.specs.Places.{is_same_standing}
use Rattle.pm_driver_script.proofs.places.place_of.Given as goal

abbrev pub invariant-loop-place : goal.invariant-loop-place
invariant-loop-place l = position_or_len (is_same_standing l.standing) l.list ≡ l.place + position_or_len (is_same_standing l.standing) (drop l.place l.list)
