use Rattle.std.proofs.Common.{◌≡◌, map, take}
use Rattle.pm_driver_report.specs.Rules.{begin_need}
use Rattle.pm_driver_report.proofs.rules.begin_needs.Given as goal

abbrev pub invariant-loop-need : goal.invariant-loop-need
invariant-loop-need l = l.out.items ≡ map begin_need (take l.need-index l.needs)
