use Rattle.std.proofs.Common.{rules}
use Rattle.pm_link.specs.LinkOrder.{consumer_at}
use Rattle.pm_link.proofs.OrderLemmas.{consumers_rise, counted_below}
use Rattle.pm_link.proofs.order.count_below.Goals as goal

pub returns : goal.returns
returns c =
    counted_below (consumer_at c.args.rows.now) c.args.order.now (consumers_rise c.args.rows.now c.args.order.now c.requires) c.args.consumer _ c.partition_point.ensures.bound c.partition_point.ensures.partitioned (λ a r f called. search rules)
