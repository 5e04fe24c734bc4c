-- The rank of an outcome, by which the list is sorted (this project's own).
use Rattle.pm_outcomes.specs.declared.list.observations.Observation.{Observation}
use Rattle.pm_outcomes.specs.declared.list.observations.Observation.TheVariants.{End, Return}
use Rattle.pm_outcomes.specs.declared.list.observations.Outcome.{Outcome}
use Rattle.pm_outcomes.specs.declared.list.ranks.Rank.{Rank}
use Rattle.pm_outcomes.specs.declared.list.ranks.Rank.TheVariants as rank
use Rattle.pm_outcomes.specs.list.Order.{status_rank}
use Rattle.std.specs.Prelude.{ℕ}

abbrev pub rank_at : Observation → ℕ → Rank
rank_at (Return r) round = rank.Return r.caller r.command round r.code
rank_at (End l) round = rank.End l.device.0 round (status_rank l.status) l.usage l.error

abbrev pub rank_of : Outcome → Rank
rank_of outcome = rank_at outcome.observation outcome.round
