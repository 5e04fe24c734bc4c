use Rattle.std.proofs.Common.{◌≡◌, ◌<◌, ℕ, Some, slice_get}
use Rattle.pm_outcomes.specs.declared.list.observations.Outcome.{Outcome}
use Rattle.pm_outcomes.specs.kernel_log.Placing.{shown}
use Rattle.pm_outcomes.proofs.kernel_log.placing.is_listed.Given as goal

abbrev pub invariant-loop-outcome : goal.invariant-loop-outcome
invariant-loop-outcome l = (j : ℕ) (o : Outcome) → j < l.outcome-index → slice_get l.outcomes j ≡ Some o → ¬ (shown o.observation ≡ l.tell)
