use Rattle.std.proofs.Common.{◌≡◌, length}
use Rattle.pm_sheet.proofs.columns.axis.Axis.of.Given as goal

-- the lines so far
abbrev pub invariant-loop-place : goal.invariant-loop-place
invariant-loop-place l = length l.axis.xs.items ≡ l.place
