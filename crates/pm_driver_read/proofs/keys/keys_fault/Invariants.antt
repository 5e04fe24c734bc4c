use Rattle.std.proofs.Common.{◌≡◌, drop, map}
use Rattle.pm_driver_read.specs.Keys.{keys_fault}
use Rattle.pm_driver_read.proofs.keys.keys_fault.Given as goal

abbrev pub invariant-loop-caller : goal.invariant-loop-caller
invariant-loop-caller l = keys_fault (map (λ row. row.name) l.devices) (map (λ c. c.name) l.callers) l.caller (drop l.caller l.callers) ≡ keys_fault (map (λ row. row.name) l.devices) (map (λ c. c.name) l.callers) 0 l.callers
