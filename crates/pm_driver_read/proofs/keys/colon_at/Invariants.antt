use Rattle.std.proofs.Common.{◌≡◌, ◌+◌, drop}
use Rattle.std.specs.List.{position_or_len}
use Rattle.pm_driver_read.specs.Keys.{is_colon}
use Rattle.pm_driver_read.proofs.keys.colon_at.Given as goal

abbrev pub invariant-loop-at : goal.invariant-loop-at
invariant-loop-at l = position_or_len is_colon l.text ≡ l.at + position_or_len is_colon (drop l.at l.text)
