use Rattle.std.proofs.Common.{◌≡◌, ◌+◌, drop, map}
use Rattle.std.specs.List.{position_or_len}
use Rattle.pm_driver_read.specs.Keys.{is_lost_after}
use Rattle.pm_driver_read.proofs.keys.first_lost.Given as goal

abbrev pub invariant-loop-at : goal.invariant-loop-at
invariant-loop-at l = position_or_len (is_lost_after (map (λ c. c.name) l.callers)) l.texts ≡ l.at + position_or_len (is_lost_after (map (λ c. c.name) l.callers)) (drop l.at l.texts)
