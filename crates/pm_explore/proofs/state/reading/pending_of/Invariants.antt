use Rattle.std.proofs.Common.{◌≡◌, take}
use Rattle.pm_explore.proofs.state.reading.pending_of.Given as goal

abbrev pub invariant-loop-dev : goal.invariant-loop-dev
invariant-loop-dev l = l.out.items ≡ take l.dev l.state.world.views.pending
