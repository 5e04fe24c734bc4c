use Rattle.pm_islands.specs.Labels.{Joined}
use Rattle.pm_islands.proofs.labels.join_all.Given as goal

-- the rows so far have been gone over
abbrev pub invariant-loop-row : goal.invariant-loop-row
invariant-loop-row l = Joined l.plan l.tie l.row l.fn.labels l.labels
