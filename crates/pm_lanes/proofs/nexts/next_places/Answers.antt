use Rattle.std.proofs.Common.{ℕ, ◌≡◌, ◌+◌, ◌-◌, ◌≤◌, Option, Some, slice_get, sym, subst, ◌∙◌, arith}
use Rattle.std.proofs.lemmas.List.{length-set}
use Rattle.std.proofs.lemmas.Option.{slice_get-get_or}
use Rattle.indexmap.specs.IndexMap.{get}
use Rattle.pm_lanes.specs.contracts.shown.LanePartialEq.TheImpl.{eq-value}
use Rattle.pm_lanes.specs.declared.shown.Lane.{Lane}
use Rattle.pm_lanes.specs.declared.shown.Piece.{Piece}
use Rattle.pm_lanes.specs.Lanes.{IsFirst, lane_of}
use Rattle.pm_lanes.proofs.LaneAlike.{alike, itself}
use Rattle.pm_lanes.proofs.NextLemmas.{done_step, first_step}
use Rattle.pm_lanes.proofs.nexts.next_places.Goals as goal

pub loop-place-preserved : goal.loop-place-preserved
loop-place-preserved c =
    let pieces = c.args.pieces.now in
    let k : ℕ = c.loop-place.place - 1 in
    let again : c.loop-place.place ≡ k + 1 = omega arith in
    let at = slice_get-get_or pieces k _ (omega arith) in
    let first : (q : Lane) → IsFirst pieces (k + 1) q (get eq-value.it c.loop-place.firsts q) = subst (λ n. (q : Lane) → IsFirst pieces n q (get eq-value.it c.loop-place.firsts q)) again c.loop-place.invariant.first in
    let was = subst (IsFirst pieces (k + 1) c.lane.result) (sym c.in_ok-nexts-2.ensures.old) (first c.lane.result) in
    record {
      within = omega arith;
      entries = length-set c.loop-place.nexts.items k c.in_ok-nexts-2.field-0 ∙ c.loop-place.invariant.entries;
      first = λ q. first_step eq-value.it alike itself pieces k _ c.lane.result q _ _ at c.lane.ensures (c.in_ok-nexts-2.ensures.updates.0 q) (first q);
      done = done_step pieces k _ c.loop-place.nexts.items c.in_ok-nexts-2.field-0 at (omega arith) (subst (λ (l : Lane). IsFirst pieces (k + 1) l c.in_ok-nexts-2.field-0) c.lane.ensures was)
          (subst (λ n. (i : ℕ) (p : Piece) → n ≤ i → slice_get pieces i ≡ Some p → (next : Option ℕ) → slice_get c.loop-place.nexts.items i ≡ Some next → IsFirst pieces (i + 1) (lane_of p.shown) next) again c.loop-place.invariant.done);
    }
