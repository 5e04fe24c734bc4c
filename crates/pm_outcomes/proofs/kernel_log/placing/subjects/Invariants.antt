use Rattle.std.proofs.Common.{◌≡◌, ◌++◌, drop}
use Rattle.pm_outcomes.specs.kernel_log.Placing.{calls_from}
use Rattle.pm_outcomes.proofs.kernel_log.placing.subjects.Given as goal

-- the calls that are left complete what was told
abbrev pub invariant-loop-caller : goal.invariant-loop-caller
invariant-loop-caller l = l.all.items ++ calls_from l.caller (drop l.caller l.plan.callers) ≡ calls_from 0 l.plan.callers
