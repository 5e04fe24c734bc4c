use Rattle.std.proofs.Common.{false, not}
use Rattle.std.proofs.lemmas.List.{length-map}
use Rattle.pm_model.specs.declared.rows.LinkRow.{LinkRow}
use Rattle.pm_link.proofs.Links.fresh.Goals as goal

pub invariant_of-result : goal.invariant_of-result
invariant_of-result c =
    let rows = c.args.plan.now.links in
    let made = c.in_ok-order.ensures in
    rw (c.in_ok-from_slice.ensures.items, c.in_ok-all_free.ensures, c.in_ok-those_present.ensures, c.as_slice-rows.ensures) (record {
      ordered = rw c.as_slice-rows.ensures at made;
      started = rw (c.deref.ensures.value, c.as_slice-rows.ensures) at c.in_ok-starts.ensures;
      ranked = rw c.deref-2.ensures.value at c.in_ok-ranks.ensures;
      held_len = length-map rows (λ (row : LinkRow). false);
      present_len = length-map rows (λ (row : LinkRow). not row.later);
      marked = rw (c.deref-3.ensures.value, c.as_slice-rows.ensures) at c.in_ok-marks.ensures;
    })
