use Rattle.std.proofs.Common.{◌≡◌, ◌++◌, length}
use Rattle.std.specs.Vec.Iter.{into_iter_items}
use Rattle.pm_driver_read.specs.Fails.{with_all_fails}
use Rattle.pm_driver_read.proofs.fails.with_all_fails.Given as goal

abbrev pub invariant-loop-row : goal.invariant-loop-row
invariant-loop-row l = l.made.items ++ with_all_fails l.said (length l.made.items) (into_iter_items l.row-iterator) ≡ with_all_fails l.said 0 l.fn.rows.items
