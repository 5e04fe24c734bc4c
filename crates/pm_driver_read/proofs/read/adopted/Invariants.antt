use Rattle.std.proofs.Common.{◌≡◌, ◌++◌, drop, map}
use Rattle.pm_driver_read.specs.Drivers.{adopted}
use Rattle.pm_driver_read.proofs.read.adopted.Given as goal

abbrev pub invariant-loop-name : goal.invariant-loop-name
invariant-loop-name l = l.places.items ++ adopted (map (λ c. c.name) l.callers) (drop l.name-index l.names) ≡ adopted (map (λ c. c.name) l.callers) l.names
