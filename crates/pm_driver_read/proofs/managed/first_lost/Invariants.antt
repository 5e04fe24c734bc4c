use Rattle.std.proofs.Common.{◌≡◌, ◌+◌, drop}
use Rattle.std.specs.List.{position_or_len}
use Rattle.pm_driver_read.specs.Managed.{is_lost_devm}
use Rattle.pm_driver_read.proofs.managed.first_lost.Given as goal

abbrev pub invariant-loop-number : goal.invariant-loop-number
invariant-loop-number l = position_or_len (is_lost_devm l.core) l.steps ≡ l.number + position_or_len (is_lost_devm l.core) (drop l.number l.steps)
