use Rattle.std.proofs.Common.{◌≡◌, length}
use Rattle.pm_show_top.proofs.parts.tally.shows.Given as goal

-- the places stay
abbrev pub invariant-loop-step : goal.invariant-loop-step
invariant-loop-step l = length l.tally.owners ≡ 4
