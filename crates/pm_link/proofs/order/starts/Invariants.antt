use Rattle.pm_link.specs.LinkOrder.{AreFirstStarts}
use Rattle.pm_link.proofs.order.starts.Given as goal

abbrev pub invariant-loop-device : goal.invariant-loop-device
invariant-loop-device l = AreFirstStarts l.rows l.order l.device l.starts.items
