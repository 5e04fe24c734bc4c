use Rattle.std.proofs.Common.{◌<◌, ◌^◌, IfSome, refl, subst}
use Rattle.std.specs.Option.{option_and_then}
use Rattle.pm_base.specs.declared.ActorId.{ActorId}
use Rattle.pm_model.specs.Serial.{late_moment, move_at}
use Rattle.pm_driver_search.proofs.ListLemmas.{all_more, all_whole}
use Rattle.pm_driver_search.proofs.moments.are_due_early.Goals as goal

pub loop-actor-preserved : goal.loop-actor-preserved
loop-actor-preserved c =
    let P : ActorId → Type 0 = λ actor. IfSome (option_and_then late_moment (move_at c.args.plan.now c.args.state.now.world c.args.time actor)) (λ t. t < 2 ^ 63) in
    all_more P c.args.actors.now c.loop-actor.actor-index _ c.loop-actor-test.true c.loop-actor.invariant (subst (λ o. IfSome o (λ t. t < 2 ^ 63)) c.late_at.ensures (c.if-not-is_early.ensures refl))

pub returns : goal.returns
returns c = λ _.
    let P : ActorId → Type 0 = λ actor. IfSome (option_and_then late_moment (move_at c.args.plan.now c.args.state.now.world c.args.time actor)) (λ t. t < 2 ^ 63) in
    all_whole P c.args.actors.now c.loop-actor.actor-index c.loop-actor-test.false c.loop-actor.invariant
