use Rattle.std.proofs.Common.{◌≡◌, ◌+◌, drop}
use Rattle.std.specs.List.{position_or_len}
use Rattle.pm_driver_read.specs.Managed.{is_step_of}
use Rattle.pm_driver_read.proofs.managed.place_of.Given as goal

abbrev pub invariant-loop-place : goal.invariant-loop-place
invariant-loop-place l = position_or_len (is_step_of l.caller l.step) l.managed ≡ l.place + position_or_len (is_step_of l.caller l.step) (drop l.place l.managed)
