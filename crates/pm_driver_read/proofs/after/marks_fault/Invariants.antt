use Rattle.std.proofs.Common.{◌≡◌, drop, map}
use Rattle.pm_driver_read.specs.After.{marks_fault}
use Rattle.pm_driver_read.proofs.after.marks_fault.Given as goal

abbrev pub invariant-loop-caller : goal.invariant-loop-caller
invariant-loop-caller l = marks_fault (map (λ c. c.name) l.callers) l.scripts l.caller (drop l.caller l.callers) ≡ marks_fault (map (λ c. c.name) l.callers) l.scripts 0 l.callers
