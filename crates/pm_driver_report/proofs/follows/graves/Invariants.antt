use Rattle.std.proofs.Common.{◌≡◌, take}
use Rattle.std.specs.List.{filter}
use Rattle.pm_driver_report.specs.Follows.{is_grave}
use Rattle.pm_driver_report.proofs.follows.graves.Given as goal

abbrev pub invariant-loop-finding : goal.invariant-loop-finding
invariant-loop-finding l = l.out.items ≡ filter (is_grave l.driver) (take l.finding-index l.pass.all.told.items)
