use Rattle.std.proofs.Common.{◌≡◌, ◌≤◌, drop, length}
use Rattle.std.specs.List.{filter_map}
use Rattle.std.specs.Option.{option_and_then}
use Rattle.pm_model.specs.Serial.{late_moment, least, move_at}
use Rattle.pm_explore.proofs.successors.moments.least_due.Given as goal

abbrev pub decreases-loop-left : goal.decreases-loop-left
decreases-loop-left l = l.left

-- the least of the moments of the actors behind these
abbrev pub invariant-loop-left : goal.invariant-loop-left
invariant-loop-left l =
    record {
      within : l.left ≤ length l.actors;
      least_is : l.least ≡ least (filter_map (λ actor. option_and_then late_moment (move_at l.plan l.state.world l.time actor)) (drop l.left l.actors));
    }
