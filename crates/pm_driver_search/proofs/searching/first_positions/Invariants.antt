use Rattle.std.proofs.Common.{◌≡◌, map, take}
use Rattle.pm_driver_orders.specs.declared.Position.TheVariants.{At}
use Rattle.pm_driver_search.proofs.searching.first_positions.Given as goal

abbrev pub invariant-loop : goal.invariant-loop
invariant-loop l = l.out.items ≡ map (λ row. At 0) (take l.index l.rows)
