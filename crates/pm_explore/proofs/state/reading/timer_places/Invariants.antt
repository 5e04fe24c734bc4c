use Rattle.std.proofs.Common.{◌≡◌, map, take}
use Rattle.pm_explore.proofs.state.reading.timer_places.Given as goal

abbrev pub invariant-loop-dev : goal.invariant-loop-dev
invariant-loop-dev l = map (λ v. v.items) l.out.items ≡ take l.dev l.state.world.timer_places
