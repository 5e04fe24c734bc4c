use Rattle.std.proofs.Common.{◌≡◌, drop}
use Rattle.pm_planread.specs.rows.Orders.{idle_consumer}
use Rattle.pm_planread.specs.tree.Places.{first_fault}
use Rattle.pm_planread.proofs.rows.orders.idle_consumers.Given as goal

abbrev pub invariant-loop-i : goal.invariant-loop-i
invariant-loop-i l = first_fault (idle_consumer l.devices) l.i (drop l.i l.rows) ≡ first_fault (idle_consumer l.devices) 0 l.rows
