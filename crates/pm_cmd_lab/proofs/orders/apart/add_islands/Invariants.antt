use Rattle.pm_islands.specs.Numbers.{island_in}
use Rattle.pm_cmd_lab.specs.orders.Apart.{IsSoFar}
use Rattle.pm_cmd_lab.proofs.orders.apart.add_islands.Given as goal

-- so many islands were gone through
abbrev pub invariant-loop-island : goal.invariant-loop-island
invariant-loop-island l = IsSoFar l.bounds l.plan (island_in l.numbers) l.island l.all
