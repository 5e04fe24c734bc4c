use Rattle.std.proofs.Common.{◌≡◌, ◌++◌, drop, map}
use Rattle.pm_driver_read.specs.After.{need_of}
use Rattle.pm_driver_read.proofs.after.needs_of.Given as goal

abbrev pub invariant-loop-text : goal.invariant-loop-text
invariant-loop-text l = l.needs.items ++ map (need_of (map (λ c. c.name) l.callers) l.marks) (drop l.text-index l.texts) ≡ map (need_of (map (λ c. c.name) l.callers) l.marks) l.texts
