use Rattle.std.proofs.Common.{◌≡◌, ◌+◌, drop, map}
use Rattle.std.specs.List.{position_or_len}
use Rattle.std.specs.Str.{bytes_eq}
use Rattle.pm_driver_read.proofs.keys.caller_named.Given as goal

abbrev pub invariant-loop-place : goal.invariant-loop-place
invariant-loop-place l = position_or_len (bytes_eq l.name) (map (λ c. c.name) l.callers) ≡ l.place + position_or_len (bytes_eq l.name) (map (λ c. c.name) (drop l.place l.callers))
