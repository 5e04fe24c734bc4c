use Rattle.std.proofs.Common.{◌-◌, arith}
use Rattle.std.specs.Option.{option_and_then}
use Rattle.pm_model.specs.Serial.{late_moment, move_at}
use Rattle.pm_explore.proofs.successors.LoopLemmas.{least_with}
use Rattle.pm_explore.proofs.successors.moments.least_due.Goals as goal

pub loop-left-preserved : goal.loop-left-preserved
loop-left-preserved c = record {
  within = omega arith;
  least_is =
      least_with (λ actor. option_and_then late_moment (move_at c.args.plan.now c.args.state.now.world c.args.time actor)) c.args.actors.now (c.loop-left.left - 1) c.loop-left.left _ c.awaits-at.result c.loop-left.least c.earlier-least.result
      (omega arith) (omega arith) c.awaits-at.ensures c.loop-left.invariant.least_is c.earlier-least.ensures;
}
