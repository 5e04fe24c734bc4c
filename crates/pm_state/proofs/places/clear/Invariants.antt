use Rattle.std.proofs.Common.{◌≡◌, [], length, slice_index_or, slice_set}
use Rattle.pm_state.proofs.places.clear.Given as goal

-- no other pile changes
abbrev pub invariant-loop : goal.invariant-loop
invariant-loop l = l.below ≡ record l.initial.below { stages = slice_set l.initial.below.stages l.actor (slice_index_or l.below.stages l.actor []) }

abbrev pub decreases-loop : goal.decreases-loop
decreases-loop l = length (slice_index_or l.below.stages l.actor [])
