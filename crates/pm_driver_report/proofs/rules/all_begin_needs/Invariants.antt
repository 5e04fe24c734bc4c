use Rattle.std.proofs.Common.{◌≡◌, map, take}
use Rattle.pm_driver_report.specs.Rules.{begin_need}
use Rattle.pm_driver_report.proofs.rules.all_begin_needs.Given as goal

abbrev pub invariant-loop-caller : goal.invariant-loop-caller
invariant-loop-caller l = map (λ v. v.items) l.out.items ≡ map (λ c. map begin_need c.after) (take l.caller-index l.callers)
