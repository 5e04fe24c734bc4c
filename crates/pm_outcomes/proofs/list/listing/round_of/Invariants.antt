use Rattle.std.proofs.Common.{◌≡◌, ℕ, ◌<◌, false, nat_lt, get_or}
use Rattle.pm_outcomes.proofs.list.listing.round_of.Given as goal

-- no round before reaches beyond the place
abbrev pub invariant-loop-round : goal.invariant-loop-round
invariant-loop-round l = (k : ℕ) → k < l.round → nat_lt l.place (get_or l.rounds k 0) ≡ false
