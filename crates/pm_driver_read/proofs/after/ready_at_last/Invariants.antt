use Rattle.std.proofs.Common.{◌≡◌}
use Rattle.pm_driver_read.specs.After.{ready_in}
use Rattle.pm_driver_read.proofs.after.ready_at_last.Given as goal

abbrev pub invariant-loop-round : goal.invariant-loop-round
invariant-loop-round l = l.ready.items ≡ ready_in l._round l.needs
