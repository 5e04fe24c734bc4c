use Rattle.std.proofs.Common.{◌≡◌, All, length}
use Rattle.pm_expect_report.specs.trace.Plain.{IsLineOf}
use Rattle.pm_expect_report.proofs.trace.plain.places.Given as goal

-- a line for each so far
abbrev pub invariant-loop-number : goal.invariant-loop-number
invariant-loop-number l = record {
  entries : length l.places.items ≡ l.number;
  lines : All (IsLineOf l.bytes) l.places.items;
}
