use Rattle.std.proofs.Common.{◌≡◌, ◌≤◌, ◌++◌, [], drop, length, slice_index_or, slice_set}
use Rattle.pm_state.proofs.places.put_all.Given as goal

-- those from here on are put
abbrev pub invariant-loop-left : goal.invariant-loop-left
invariant-loop-left l = record {
  within : l.left ≤ length l.more;
  stages : l.below ≡ record l.fn.below { stages = slice_set l.fn.below.stages l.actor (drop l.left l.more ++ slice_index_or l.fn.below.stages l.actor []) };
}

abbrev pub decreases-loop-left : goal.decreases-loop-left
decreases-loop-left l = l.left
