use Rattle.std.proofs.Common.{◌≡◌, ◌++◌, drop}
use Rattle.pm_driver_read.specs.Straight.{straight_from}
use Rattle.pm_driver_read.proofs.straight.straight_places.Given as goal

abbrev pub invariant-loop-number : goal.invariant-loop-number
invariant-loop-number l = l.places.items ++ straight_from l.number (drop l.number l.commands) ≡ straight_from 0 l.commands
