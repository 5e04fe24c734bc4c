use Rattle.std.proofs.Common.{◌≡◌, take}
use Rattle.pm_explore.proofs.state.reading.links_held.Given as goal

abbrev pub invariant-loop-link : goal.invariant-loop-link
invariant-loop-link l = l.out.items ≡ take l.link l.state.world.views.held
