use Rattle.std.proofs.Common.{◌≡◌, drop}
use Rattle.pm_planread.specs.rows.TooMany.{caller_too_many}
use Rattle.pm_planread.specs.tree.Places.{first_fault}
use Rattle.pm_planread.proofs.rows.many.many_in_callers.Given as goal

abbrev pub invariant-loop-i : goal.invariant-loop-i
invariant-loop-i l = first_fault caller_too_many l.i (drop l.i l.rows) ≡ first_fault caller_too_many 0 l.rows
