use Rattle.pm_outcomes.specs.kernel_log.Placing.{AreOf}
use Rattle.pm_outcomes.proofs.kernel_log.placing.are_of.Given as goal

abbrev pub invariant-loop-place : goal.invariant-loop-place
invariant-loop-place l = AreOf l.all l.tells l.place
