use Rattle.std.proofs.Common.{◌≡◌, ◌+◌, drop, map}
use Rattle.std.specs.List.{position_or_len}
use Rattle.pm_driver_read.specs.Keys.{is_stranger}
use Rattle.pm_driver_read.proofs.keys.first_stranger.Given as goal

abbrev pub invariant-loop-at : goal.invariant-loop-at
invariant-loop-at l = position_or_len (is_stranger (map (λ c. c.name) l.callers)) l.names ≡ l.at + position_or_len (is_stranger (map (λ c. c.name) l.callers)) (drop l.at l.names)
