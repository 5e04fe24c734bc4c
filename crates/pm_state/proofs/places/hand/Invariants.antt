use Rattle.std.proofs.Common.{◌≡◌, [], length, slice_index_or, slice_set}
use Rattle.pm_model.specs.Handing.{after_code}
use Rattle.pm_state.proofs.places.hand.Given as goal

-- handing the code on from here gives what handing the first one from the whole pile gives, and no other pile changes
abbrev pub invariant-loop-stage : goal.invariant-loop-stage
invariant-loop-stage l = record {
  code : after_code (slice_index_or l.below.stages l.actor []) l.code ≡ after_code (slice_index_or l.initial.below.stages l.actor []) l.initial.code;
  rest : l.below ≡ record l.initial.below { stages = slice_set l.initial.below.stages l.actor (slice_index_or l.below.stages l.actor []) };
}

abbrev pub decreases-loop-stage : goal.decreases-loop-stage
decreases-loop-stage l = length (slice_index_or l.below.stages l.actor [])
