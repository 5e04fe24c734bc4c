use Rattle.std.proofs.Common.{◌≡◌, ◌++◌, drop, map}
use Rattle.std.specs.List.{list_all}
use Rattle.pm_driver_read.specs.After.{is_ready, ready_more}
use Rattle.pm_driver_read.proofs.after.ready_more.Given as goal

abbrev pub invariant-loop-row : goal.invariant-loop-row
invariant-loop-row l = l.more.items ++ map (list_all (is_ready l.ready)) (drop l.row-index l.needs) ≡ ready_more l.needs l.ready
