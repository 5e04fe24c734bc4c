use Rattle.std.proofs.Common.{◌≡◌, map, take}
use Rattle.pm_account.specs.Kept.{until}
use Rattle.pm_account.proofs.until_end.Given as goal

-- the times of the devices so far
abbrev pub invariant-loop-stay : goal.invariant-loop-stay
invariant-loop-stay l = l.times.items ≡ map (λ stay. until stay l.end) (take l.stay-index l.stays)
