use Rattle.std.proofs.Common.{◌≡◌, replicate}
use Rattle.pm_find.specs.findings.Kept.{unknown}
use Rattle.pm_find.proofs.findings.watch.fresh_rows.Given as goal

-- the rows so far
abbrev pub invariant-loop : goal.invariant-loop
invariant-loop l = l.rows.items ≡ replicate l.counter unknown
