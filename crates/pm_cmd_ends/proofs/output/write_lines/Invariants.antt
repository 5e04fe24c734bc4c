use Rattle.std.proofs.Common.{◌≤◌, drop}
use Rattle.pm_cmd_ends.specs.Pieces.{AreInTime, line_pieces}
use Rattle.pm_cmd_ends.proofs.Writing.{IsUnderWay}
use Rattle.pm_cmd_ends.proofs.output.write_lines.Given as goal

abbrev pub invariant-loop-line : goal.invariant-loop-line
invariant-loop-line g l = record {
  way : IsUnderWay (g.O.Sink.taken l.initial.out) (g.O.Sink.taken l.out) (line_pieces l.format l.speller 0 l.lines) (line_pieces l.format l.speller l.base (drop l.line-index l.lines));
  in_time : AreInTime l.base (drop l.line-index l.lines);
  faults : g.O.Sink.faults l.initial.out ≤ g.O.Sink.faults l.out;
}
