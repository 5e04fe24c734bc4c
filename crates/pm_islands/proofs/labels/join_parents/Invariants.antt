use Rattle.pm_islands.proofs.Sharing.{ParentsJoined}
use Rattle.pm_islands.proofs.labels.join_parents.Given as goal

-- the devices so far are joined to their parents
abbrev pub invariant-loop-row : goal.invariant-loop-row
invariant-loop-row l = ParentsJoined l.plan l.row l.fn.labels l.labels
