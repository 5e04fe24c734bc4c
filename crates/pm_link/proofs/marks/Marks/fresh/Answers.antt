use Rattle.std.proofs.Common.{arith}
use Rattle.pm_link.proofs.MarkLemmas.{fresh_marks}
use Rattle.pm_link.proofs.OrderLemmas.{length_order}
use Rattle.pm_link.proofs.marks.Marks.fresh.Goals as goal

pub new-requires : goal.new-requires
new-requires c = omega (arith, c.requires.few, length_order c.args.rows.now c.args.order.now c.requires)

pub new-requires-2 : goal.new-requires-2
new-requires-2 c = omega (arith, c.requires.few, length_order c.args.rows.now c.args.order.now c.requires)

pub returns : goal.returns
returns c =
    fresh_marks c.args.rows.now c.args.order.now _ c.requires c.in_ok-new.ensures c.in_ok-live_at_first.ensures c.in_ok-new-2.ensures c.in_ok-live_at_first-2.ensures
