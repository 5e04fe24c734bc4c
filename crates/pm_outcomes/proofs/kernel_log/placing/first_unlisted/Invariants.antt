use Rattle.pm_outcomes.specs.kernel_log.Placing.{AreListed}
use Rattle.pm_outcomes.proofs.kernel_log.placing.first_unlisted.Given as goal

abbrev pub invariant-loop-place : goal.invariant-loop-place
invariant-loop-place l = AreListed l.outcomes l.tells l.place
