use Rattle.std.proofs.Common.{◌≡◌, None, replicate}
use Rattle.pm_state.proofs.places.no_tops.Given as goal

abbrev pub invariant-loop : goal.invariant-loop
invariant-loop l = l.tops.items ≡ replicate l.counter None
