use Rattle.std.proofs.Common.{rules}
use Rattle.pm_link.specs.LinkOrder.{supplier_at}
use Rattle.pm_link.proofs.OrderLemmas.{counted_below}
use Rattle.pm_link.proofs.order.suppliers_below.Goals as goal

pub returns : goal.returns
returns c =
    counted_below (supplier_at c.args.rows.now) c.args.own.now c.requires c.args.supplier _ c.partition_point.ensures.bound c.partition_point.ensures.partitioned (λ a r f called. search rules)
