use Rattle.std.proofs.Common.{◌≡◌, map, take}
use Rattle.pm_islands.specs.Ranks.{number_of}
use Rattle.pm_islands.proofs.numbers.numbers_of.Given as goal

abbrev pub invariant-loop-label : goal.invariant-loop-label
invariant-loop-label l = l.numbers.items ≡ map (number_of l.callers) (take l.label-index l.labels)
