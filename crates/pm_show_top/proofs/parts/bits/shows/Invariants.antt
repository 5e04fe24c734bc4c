use Rattle.std.proofs.Common.{◌≡◌, length}
use Rattle.pm_show_top.proofs.parts.bits.shows.Given as goal

-- the bound stays
abbrev pub invariant-loop-step : goal.invariant-loop-step
invariant-loop-step l = length l.bits ≡ l.bound
