use Rattle.std.proofs.Common.{◌<◌, ◌^◌, IfSome, take}
use Rattle.std.specs.List.{All}
use Rattle.std.specs.Option.{option_and_then}
use Rattle.pm_model.specs.Serial.{late_moment, move_at}
use Rattle.pm_driver_search.proofs.moments.are_due_early.Given as goal

abbrev pub invariant-loop-actor : goal.invariant-loop-actor
invariant-loop-actor l = All (λ actor. IfSome (option_and_then late_moment (move_at l.plan l.state.world l.time actor)) (λ t. t < 2 ^ 63)) (take l.actor-index l.actors)
