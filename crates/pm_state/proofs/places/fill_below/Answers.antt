use Rattle.pm_state.proofs.StackLemmas.{filled}
use Rattle.pm_state.proofs.places.fill_below.Goals as goal

pub returns-clause-rest : goal.returns-clause-rest
returns-clause-rest c =
    filled c.args.below.now c.clear.new.below c.put_all.new.below c.args.actor c.args.stages.now c.requires.in_range c.clear.ensures c.put_all.ensures
