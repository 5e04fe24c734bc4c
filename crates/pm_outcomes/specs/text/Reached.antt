-- How far a search is exact (this project's own).
use Rattle.std.specs.Prelude.{ℕ, zero, suc, Option, Some, None}
use Rattle.pm_explore.specs.declared.search.found.Ended.{Ended}
use Rattle.pm_explore.specs.declared.search.found.Ended.TheVariants.{Rounds, Stopped, Whole}
use Rattle.pm_outcomes.specs.declared.text.reach.Reach.{Reach}
use Rattle.pm_outcomes.specs.declared.text.reach.Reach.TheVariants.{All, Limit, Within}

-- the last round, if there is one
abbrev pub last_round : ℕ → Option ℕ
last_round zero = None
last_round (suc k) = Some k

abbrev pub exact_to : Ended → Option ℕ → Reach
exact_to Whole last = All
exact_to Rounds (Some k) = Within k
exact_to Rounds None = Limit None
exact_to (Stopped stop) last = Limit last

abbrev pub reach_of : Ended → ℕ → Reach
reach_of ended rounds = exact_to ended (last_round rounds)
