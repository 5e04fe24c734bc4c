use Rattle.std.proofs.Common.{take}
use Rattle.std.specs.List.{All}
use Rattle.pm_state.specs.Standing.{StandsWell}
use Rattle.pm_driver_search.proofs.steady.stand_well.Given as goal

abbrev pub invariant-loop-actor : goal.invariant-loop-actor
invariant-loop-actor l = All (StandsWell l.plan l.state.world) (take l.actor-index l.actors)
