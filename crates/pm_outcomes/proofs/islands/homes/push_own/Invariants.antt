use Rattle.std.proofs.Common.{◌≡◌, ◌++◌, take}
use Rattle.pm_outcomes.specs.islands.Homes.{at_home}
use Rattle.pm_islands.specs.Numbers.{island_in}
use Rattle.pm_outcomes.proofs.islands.homes.push_own.Given as goal

-- those of the outcomes so far
abbrev pub invariant-loop-outcome : goal.invariant-loop-outcome
invariant-loop-outcome l = l.observations.items ≡ l.initial.observations.items ++ at_home (island_in l.numbers) l.island (take l.outcome-index l.outcomes)
