use Rattle.std.proofs.Common.{◌≡◌, length}
use Rattle.pm_outcomes.specs.kernel_log.Lines.{behind_prefix}
use Rattle.pm_outcomes.proofs.kernel_log.lines.behind_prefix.Given as goal

abbrev pub invariant-loop-rest : goal.invariant-loop-rest
invariant-loop-rest l = behind_prefix l.rest ≡ behind_prefix l.line

abbrev pub decreases-loop-rest : goal.decreases-loop-rest
decreases-loop-rest l = length l.rest
