use Rattle.std.proofs.Common.{◌≡◌, ◌+◌, ◌-◌, ◌≤◌, true, IsTrue, IsSome, length}
use Rattle.pm_base.specs.declared.limits.TheConstants.{PIECE_BYTES, TRACE_BYTES}
use Rattle.pm_cmd_top.specs.Feeding.{IsFed}
use Rattle.pm_cmd_top.proofs.feeding.read_trace.Given as goal

abbrev pub invariant-loop-count : goal.invariant-loop-count
invariant-loop-count g l = record {
  started : g.F.Files.is_started l.files ≡ true;
  place : g.F.Files.place l.files ≡ l.count;
  within : l.count ≤ TRACE_BYTES + 1;
  piece : length l.piece ≡ PIECE_BYTES;
  fed : IsFed g.T.LineTaker.StandsFor (g.F.Files.told l.fn.files l.trace) l.auditor l.count (g.F.Files.unread l.files);
  there : IsTrue g.F.Files.tells_all → IsSome (g.F.Files.told l.fn.files l.trace);
  plan : l.auditor.reader.judge.plan ≡ l.fn.auditor.reader.judge.plan;
  same : l.auditor.reader.subject ≡ l.fn.auditor.reader.subject;
  calm : g.F.Files.faults l.files ≡ g.F.Files.faults l.fn.files;
  never_falls : g.F.Files.faults l.fn.files ≤ g.F.Files.faults l.files;
}

abbrev pub decreases-loop-count : goal.decreases-loop-count
decreases-loop-count g l = TRACE_BYTES + 1 - l.count
