use Rattle.std.proofs.Common.{◌+◌, ◌*◌, ◌-◌, ◌≤◌}
use Rattle.pm_laws.specs.turns.Wakes.{wakes}
use Rattle.pm_turns.specs.Turning.{Looked}
use Rattle.pm_turns.proofs.turns.Turns.refresh_waiters.Given as goal

-- those who are listed so far are asked anew
abbrev pub invariant-loop-seat : goal.invariant-loop-seat
invariant-loop-seat l = record {
  looked : Looked (wakes l.plan l.state.world) l.initial.self l.self l.dev l.from;
  low : l.from ≤ l.initial.self.rows.callers + 2 * l.initial.self.rows.devices;
}

abbrev pub decreases-loop-seat : goal.decreases-loop-seat
decreases-loop-seat l = l.initial.self.rows.callers + 2 * l.initial.self.rows.devices - l.from
