use Rattle.std.proofs.Common.{◌≡◌, map, take}
use Rattle.pm_islands.specs.Ranks.{rank}
use Rattle.pm_islands.proofs.numbers.ranks_of.Given as goal

abbrev pub invariant-loop-label : goal.invariant-loop-label
invariant-loop-label l = l.numbers.items ≡ map (rank l.callers) (take l.label-index l.callers)
