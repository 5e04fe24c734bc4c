use Rattle.std.proofs.Common.{◌≡◌, ◌+◌, drop, not}
use Rattle.std.specs.List.{position_or_len}
use Rattle.pm_driver_read.proofs.after.first_never.Given as goal

abbrev pub invariant-loop-caller : goal.invariant-loop-caller
invariant-loop-caller l = position_or_len not l.ready ≡ l.caller + position_or_len not (drop l.caller l.ready)
