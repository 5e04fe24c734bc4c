use Rattle.std.proofs.Common.{refl}
use Rattle.pm_state.specs.Standing.{StandsWell}
use Rattle.pm_driver_search.proofs.ListLemmas.{all_more, all_whole}
use Rattle.pm_driver_search.proofs.steady.stand_well.Goals as goal

pub loop-actor-preserved : goal.loop-actor-preserved
loop-actor-preserved c = all_more (StandsWell c.args.plan.now c.args.state.now.world) c.args.actors.now c.loop-actor.actor-index _ c.loop-actor-test.true c.loop-actor.invariant (c.if-not-stands_well.ensures refl)

pub returns : goal.returns
returns c = λ _. all_whole (StandsWell c.args.plan.now c.args.state.now.world) c.args.actors.now c.loop-actor.actor-index c.loop-actor-test.false c.loop-actor.invariant
