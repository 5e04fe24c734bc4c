use Rattle.std.proofs.Common.{◌-◌}
use Rattle.pm_islands.proofs.Going.{Going}
use Rattle.pm_islands.proofs.NextLemmas.{held}
use Rattle.pm_islands.proofs.merging.merge.Given as goal

-- the lines so far are the first of the merge
abbrev pub invariant-loop-rests : goal.invariant-loop-rests
invariant-loop-rests l = Going (held l.lists) (held l.rests.items) l.limit l.lines.items

abbrev pub decreases-loop-rests : goal.decreases-loop-rests
decreases-loop-rests l = l.limit - l.lines.len
