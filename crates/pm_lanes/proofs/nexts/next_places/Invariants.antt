use Rattle.std.proofs.Common.{ℕ, ◌≡◌, ◌+◌, ◌≤◌, Option, Some, length, slice_get}
use Rattle.indexmap.specs.IndexMap.{get}
use Rattle.pm_lanes.specs.contracts.shown.LanePartialEq.TheImpl.{eq-value}
use Rattle.pm_lanes.specs.declared.shown.Lane.{Lane}
use Rattle.pm_lanes.specs.declared.shown.Piece.{Piece}
use Rattle.pm_lanes.specs.Lanes.{IsFirst, lane_of}
use Rattle.pm_lanes.proofs.nexts.next_places.Given as goal

-- of the pieces from this place on the next ones are known, and the first of each lane
abbrev pub invariant-loop-place : goal.invariant-loop-place
invariant-loop-place l = record {
  within : l.place ≤ length l.pieces;
  entries : length l.nexts.items ≡ length l.pieces;
  first : (q : Lane) → IsFirst l.pieces l.place q (get eq-value.it l.firsts q);
  done : (i : ℕ) (p : Piece) → l.place ≤ i → slice_get l.pieces i ≡ Some p → (next : Option ℕ) → slice_get l.nexts.items i ≡ Some next → IsFirst l.pieces (i + 1) (lane_of p.shown) next;
}

abbrev pub decreases-loop-place : goal.decreases-loop-place
decreases-loop-place l = l.place
