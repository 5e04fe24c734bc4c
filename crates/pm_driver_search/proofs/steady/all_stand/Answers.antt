use Rattle.pm_driver_search.proofs.Actors.{actors_in_range}
use Rattle.pm_driver_search.proofs.SteadyLemmas.{stand_all}
use Rattle.pm_driver_search.proofs.steady.all_stand.Goals as goal

pub stand_well-requires-clause-in_range : goal.stand_well-requires-clause-in_range
stand_well-requires-clause-in_range c = actors_in_range c.args.plan.now c.args.actors.now c.requires.actors

pub returns : goal.returns
returns c = λ is. stand_all c.args.plan.now c.args.state.now.world c.args.actors.now c.requires.actors c.requires.entries c.requires.places (c.stand_well.ensures is)
