use Rattle.std.proofs.Common.{take}
use Rattle.pm_driver_report.specs.Follows.{AreWeighed}
use Rattle.pm_driver_report.proofs.follows.all_weighed.Given as goal

abbrev pub invariant-loop-line : goal.invariant-loop-line
invariant-loop-line l = AreWeighed l.driver l.examined l.passes (take l.line-index l.lines) l.out.items
