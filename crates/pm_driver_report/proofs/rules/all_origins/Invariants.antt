use Rattle.std.proofs.Common.{◌≡◌, map, take}
use Rattle.pm_driver_report.specs.Rules.{origin_of, origin_read}
use Rattle.pm_driver_report.proofs.rules.all_origins.Given as goal

abbrev pub invariant-loop-caller : goal.invariant-loop-caller
invariant-loop-caller l = map origin_of l.out.items ≡ map origin_read (take l.caller-index l.callers)
