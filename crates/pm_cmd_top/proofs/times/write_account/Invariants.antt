use Rattle.std.proofs.Common.{◌≤◌, drop}
use Rattle.pm_account.specs.AllKept.{account_of}
use Rattle.pm_account.specs.Texts.{account_text, lines_from}
use Rattle.pm_model.specs.Text.{names_of}
use Rattle.pm_cmd_ends.proofs.Writing.{IsUnderWay}
use Rattle.pm_cmd_top.proofs.times.write_account.Given as goal

abbrev pub invariant-loop-place : goal.invariant-loop-place
invariant-loop-place g l = record {
  way : IsUnderWay (g.O.Sink.taken l.fn.out) (g.O.Sink.taken l.out) (account_text (names_of l.plan) (account_of l.stays)) (lines_from (names_of l.plan) l.place (drop l.place (account_of l.stays)));
  faults : g.O.Sink.faults l.fn.out ≤ g.O.Sink.faults l.out;
}
