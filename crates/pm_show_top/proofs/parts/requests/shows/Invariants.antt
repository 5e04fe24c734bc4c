use Rattle.std.proofs.Common.{◌≡◌, length}
use Rattle.pm_show_top.proofs.parts.requests.shows.Given as goal

-- the devices stay
abbrev pub invariant-loop-dev : goal.invariant-loop-dev
invariant-loop-dev l = length l.requests ≡ 3
