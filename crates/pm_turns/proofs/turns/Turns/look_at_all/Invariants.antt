use Rattle.pm_turns.specs.Turning.{Seen}
use Rattle.pm_turns.proofs.turns.Turns.look_at_all.Given as goal

-- the actors at the seats so far are looked at
abbrev pub invariant-loop-seat : goal.invariant-loop-seat
invariant-loop-seat l = Seen l.plan l.state.world l.initial.self l.self l.seat
