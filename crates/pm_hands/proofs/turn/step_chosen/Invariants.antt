use Rattle.std.proofs.Common.{◌≡◌}
use Rattle.pm_hands.proofs.turn.step_chosen.Given as goal

-- nobody has gone on so far
abbrev pub invariant-loop : goal.invariant-loop
invariant-loop l = l.book ≡ l.initial.book
