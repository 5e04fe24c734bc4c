use Rattle.std.proofs.Common.{◌≡◌}
use Rattle.pm_driver_find.specs.Ahead.{marks_after}
use Rattle.pm_driver_find.proofs.ahead.ahead_of.Given as goal

abbrev pub invariant-loop-call : goal.invariant-loop-call
invariant-loop-call l = l.marks.items ≡ marks_after l.program l.aim l._call
