use Rattle.std.proofs.Common.{◌≤◌, drop}
use Rattle.std.specs.List.{flat_map}
use Rattle.pm_model.specs.Text.{names_of}
use Rattle.pm_why.specs.Texts.{reason_line}
use Rattle.pm_cmd_ends.proofs.Writing.{IsUnderWay}
use Rattle.pm_cmd_top.proofs.why.write_each.Given as goal

abbrev pub invariant-loop-reason : goal.invariant-loop-reason
invariant-loop-reason g l = record {
  way : IsUnderWay (g.O.Sink.taken l.fn.out) (g.O.Sink.taken l.out) (flat_map (reason_line (names_of l.plan)) l.reasons) (flat_map (reason_line (names_of l.plan)) (drop l.reason-index l.reasons));
  faults : g.O.Sink.faults l.fn.out ≤ g.O.Sink.faults l.out;
}
