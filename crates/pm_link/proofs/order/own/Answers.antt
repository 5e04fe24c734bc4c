use Rattle.std.proofs.Common.{◌+◌, length, get_or}
use Rattle.pm_link.proofs.OrderLemmas.{own_between}
use Rattle.pm_link.proofs.order.own.Goals as goal

pub returns : goal.returns
returns c =
    rw (c.start-from.ensures, c.start-to.ensures)
    (own_between c.args.rows.now c.args.order.now c.args.consumer (get_or c.args.starts.now c.args.consumer.0 (length c.args.order.now)) (get_or c.args.starts.now (c.args.consumer.0 + 1) (length c.args.order.now)) c.requires.ordered (c.requires.started c.args.consumer.0) (c.requires.started (c.args.consumer.0 + 1)))
