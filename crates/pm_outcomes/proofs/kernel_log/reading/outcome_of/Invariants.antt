use Rattle.std.proofs.Common.{option_map, length, ◌+◌}
use Rattle.std.specs.Option.{option_map_or}
use Rattle.pm_outcomes.specs.kernel_log.Rest.{IsReadTo}
use Rattle.pm_outcomes.proofs.kernel_log.reading.outcome_of.Given as goal

abbrev pub invariant-loop-rest : goal.invariant-loop-rest
invariant-loop-rest l = IsReadTo l.plan l.log (option_map (λ text. text.now) l.rest) l.read

abbrev pub decreases-loop-rest : goal.decreases-loop-rest
decreases-loop-rest l = option_map_or (λ text. length text.now + 1) l.rest 0
