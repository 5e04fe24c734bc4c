use Rattle.std.proofs.Common.{◌≡◌, reverse, vec_len}
use Rattle.pm_driver_runs.specs.Collected.{to_last_failure}
use Rattle.pm_driver_runs.proofs.collected.answers.keep_to_last_failure.Given as goal

abbrev pub invariant-loop-codes : goal.invariant-loop-codes
invariant-loop-codes l = reverse (to_last_failure (reverse l.codes.items)) ≡ reverse (to_last_failure (reverse l.initial.codes.items))

abbrev pub decreases-loop-codes : goal.decreases-loop-codes
decreases-loop-codes l = vec_len l.codes
