use Rattle.std.proofs.Common.{◌≡◌, ◌+◌, drop, map}
use Rattle.std.specs.List.{position_or_len}
use Rattle.pm_driver_read.specs.After.{is_unset}
use Rattle.pm_driver_read.proofs.after.first_unset.Given as goal

abbrev pub invariant-loop-at : goal.invariant-loop-at
invariant-loop-at l = position_or_len (is_unset (map (λ c. c.name) l.callers) l.scripts) l.texts ≡ l.at + position_or_len (is_unset (map (λ c. c.name) l.callers) l.scripts) (drop l.at l.texts)
