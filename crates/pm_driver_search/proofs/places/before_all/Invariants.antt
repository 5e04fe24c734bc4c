use Rattle.std.proofs.Common.{◌≡◌, map, take}
use Rattle.pm_driver_orders.specs.declared.Position.TheVariants.{At}
use Rattle.pm_driver_search.proofs.places.before_all.Given as goal

abbrev pub invariant-loop-place : goal.invariant-loop-place
invariant-loop-place l = l.out.items ≡ map At (take l.place-index l.places)
