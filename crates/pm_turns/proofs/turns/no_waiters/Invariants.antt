use Rattle.std.proofs.Common.{◌≡◌, false, replicate}
use Rattle.pm_turns.proofs.turns.no_waiters.Given as goal

-- one for each device so far
abbrev pub invariant-loop : goal.invariant-loop
invariant-loop l = l.waiters.items ≡ replicate l.counter (replicate l.seats false)
