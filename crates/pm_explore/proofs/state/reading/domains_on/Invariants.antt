use Rattle.std.proofs.Common.{◌≡◌, take}
use Rattle.pm_explore.proofs.state.reading.domains_on.Given as goal

abbrev pub invariant-loop-domain : goal.invariant-loop-domain
invariant-loop-domain l = l.out.items ≡ take l.domain l.state.world.views.on
