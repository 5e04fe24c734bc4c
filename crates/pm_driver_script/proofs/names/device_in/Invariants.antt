use Rattle.std.proofs.Common.{◌≡◌, ◌+◌, drop}
use Rattle.std.specs.List.{position_or_len}
use Rattle.pm_driver_script.specs.Names.{is_same_device}
use Rattle.pm_driver_script.proofs.names.device_in.Given as goal

abbrev pub invariant-loop-place : goal.invariant-loop-place
invariant-loop-place l = position_or_len (is_same_device l.dev) l.devices ≡ l.place + position_or_len (is_same_device l.dev) (drop l.place l.devices)
