use Rattle.std.proofs.Common.{◌≡◌}
use Rattle.pm_hands.proofs.turn.step_any.Given as goal

-- nobody has gone on so far
abbrev pub invariant-loop-place : goal.invariant-loop-place
invariant-loop-place l = l.book ≡ l.initial.book
