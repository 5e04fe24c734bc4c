use Rattle.pm_state.proofs.StackLemmas.{only}
use Rattle.pm_state.proofs.places.clear.Goals as goal

pub loop-preserved : goal.loop-preserved
loop-preserved c = only c.args.below.now c.loop.below c.pop.new.self c.args.actor _ c.requires c.loop.invariant c.pop.ensures.rest
