use Rattle.std.proofs.Common.{◌≡◌, map, take}
use Rattle.pm_explore.proofs.state.reading.caller_places.Given as goal

abbrev pub invariant-loop-caller : goal.invariant-loop-caller
invariant-loop-caller l = map (λ v. v.items) l.out.items ≡ take l.caller l.state.world.caller_places
