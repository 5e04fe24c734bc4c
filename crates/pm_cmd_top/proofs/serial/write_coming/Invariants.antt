use Rattle.std.proofs.Common.{◌≡◌, ◌-◌, ◌≤◌, drop, length}
use Rattle.pm_cmd_ends.specs.Pieces.{AreInTime, line_pieces}
use Rattle.pm_cmd_ends.proofs.Writing.{IsUnderWay}
use Rattle.pm_model.specs.Serial.{serial}
use Rattle.pm_cmd_top.proofs.serial.write_coming.Given as goal

-- the text of the lines that have come was taken, and that of the others is to come
abbrev pub invariant-loop-turn : goal.invariant-loop-turn
invariant-loop-turn g l =
    let lines = serial l.initial.lines.plan in
    record {
      way : IsUnderWay (g.O.Sink.taken l.initial.out) (g.O.Sink.taken l.out) (line_pieces l.format l.speller 0 lines) (line_pieces l.format l.speller l.base (drop l.lines.came lines));
      in_time : AreInTime l.base (drop l.lines.came lines);
      plan : l.lines.plan ≡ l.initial.lines.plan;
      within : l.lines.came ≤ length lines;
      faults : g.O.Sink.faults l.initial.out ≤ g.O.Sink.faults l.out;
    }

abbrev pub decreases-loop-turn : goal.decreases-loop-turn
decreases-loop-turn g l = length (serial l.initial.lines.plan) - l.lines.came
