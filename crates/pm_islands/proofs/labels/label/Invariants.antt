use Rattle.std.proofs.Common.{◌+◌}
use Rattle.pm_islands.proofs.Sharing.{SharedTo}
use Rattle.pm_islands.proofs.labels.label.Given as goal

-- the ties before this caller's have been gone over
abbrev pub invariant-loop-caller : goal.invariant-loop-caller
invariant-loop-caller l = SharedTo l.plan (4 + l.caller) l.labels
