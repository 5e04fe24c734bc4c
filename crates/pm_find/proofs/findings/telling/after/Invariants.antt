use Rattle.std.proofs.Common.{◌≡◌, ◌+◌, length, reverse, take}
use Rattle.pm_find.specs.findings.WatchTable.{IsTable}
use Rattle.pm_find.proofs.findings.telling.after.Given as goal

-- what is kept is that of the lines so far
abbrev pub invariant-loop-line : goal.invariant-loop-line
invariant-loop-line l = record {
  kept : IsTable (length l.plan.devices + 1) (length l.plan.callers) (reverse (take l.line-index l.lines)) l.watch;
  number : l.number ≡ l.line-index;
}
