use Rattle.std.proofs.Common.{◌≡◌, false, take}
use Rattle.std.specs.List.{list_any}
use Rattle.pm_model.specs.Serial.{may_write}
use Rattle.pm_explore.proofs.successors.moves.any_may.Given as goal

-- none of the actors so far may write
abbrev pub invariant-loop-actor : goal.invariant-loop-actor
invariant-loop-actor l = list_any (may_write l.plan l.state.world l.time) (take l.actor-index l.actors) ≡ false
