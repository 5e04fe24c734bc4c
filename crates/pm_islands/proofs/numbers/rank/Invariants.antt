use Rattle.std.proofs.Common.{◌≡◌, ◌≤◌}
use Rattle.pm_islands.specs.Ranks.{rank}
use Rattle.pm_islands.proofs.numbers.rank.Given as goal

abbrev pub invariant-loop-other : goal.invariant-loop-other
invariant-loop-other l = (l.rank ≡ rank l.labels l.other-counter) × (l.rank ≤ l.other-counter)
