use Rattle.std.proofs.Common.{◌≡◌, map, take, slice_set}
use Rattle.pm_driver_search.proofs.places.with_each.Given as goal

abbrev pub invariant-loop-position : goal.invariant-loop-position
invariant-loop-position l = map (λ v. v.items) l.out.items ≡ map (slice_set l.positions l.caller) (take l.position-index l.own)
