use Rattle.std.proofs.Common.{◌≡◌, ◌++◌}
use Rattle.pm_outcomes.specs.kernel_log.Placing.{calls_of}
use Rattle.pm_outcomes.proofs.kernel_log.placing.push_calls.Given as goal

abbrev pub invariant-loop-number : goal.invariant-loop-number
invariant-loop-number l = l.all.items ≡ l.initial.all.items ++ calls_of l.caller l.number
