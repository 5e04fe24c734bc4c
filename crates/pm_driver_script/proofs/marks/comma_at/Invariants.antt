use Rattle.std.proofs.Common.{◌≡◌, ◌+◌, drop}
use Rattle.std.specs.List.{position_or_len}
use Rattle.pm_driver_script.specs.Marks.{is_comma}
use Rattle.pm_driver_script.proofs.marks.comma_at.Given as goal

abbrev pub invariant-loop-at : goal.invariant-loop-at
invariant-loop-at l = position_or_len is_comma l.bytes ≡ l.at + position_or_len is_comma (drop l.at l.bytes)
