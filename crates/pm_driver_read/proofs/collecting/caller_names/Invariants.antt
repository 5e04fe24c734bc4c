use Rattle.std.proofs.Common.{◌≡◌, ◌++◌, drop, map}
use Rattle.pm_driver_read.proofs.collecting.caller_names.Given as goal

abbrev pub invariant-loop-caller : goal.invariant-loop-caller
invariant-loop-caller l = l.names.items ++ map (λ c. c.name) (drop l.caller-index l.callers) ≡ map (λ c. c.name) l.callers
