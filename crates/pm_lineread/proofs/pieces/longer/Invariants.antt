-- The number read so far goes on as the whole does.
use Rattle.std.proofs.Common.{◌≡◌, ◌≤◌, drop}
use Rattle.pm_lineread.specs.Pieces.{longer_at}
use Rattle.pm_lineread.proofs.pieces.longer.Given as goal

abbrev pub invariant-loop-i : goal.invariant-loop-i
invariant-loop-i l = record {
  same : longer_at l.base l.most l.number (drop l.i l.bytes) ≡ longer_at l.base l.most l.first l.bytes;
  fits : l.number ≤ l.most;
}
