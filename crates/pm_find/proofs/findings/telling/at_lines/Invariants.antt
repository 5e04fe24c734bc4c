use Rattle.std.proofs.Common.{◌≡◌, ◌+◌, length, reverse, take}
use Rattle.pm_safety.specs.dependencies.Kept.{IsKept}
use Rattle.pm_find.specs.findings.AllFound.{found_in}
use Rattle.pm_find.specs.findings.Ending.{AreDropped}
use Rattle.pm_find.specs.findings.WatchTable.{IsTable, later_in}
use Rattle.pm_find.proofs.findings.telling.at_lines.Given as goal

-- what is kept is that of the lines so far, and what is told is what stands out at them
abbrev pub invariant-loop-line : goal.invariant-loop-line
invariant-loop-line l = record {
  kept : IsTable (length l.plan.devices + 1) (length l.plan.callers) (reverse (take l.line-index l.lines)) l.watch;
  number : l.number ≡ l.line-index;
  bonds : IsKept l.plan l.bonds (reverse (take l.line-index l.lines));
  dropped : AreDropped l.plan (reverse (take l.line-index l.lines)) l.drops;
  found : l.all.items ≡ found_in l.plan (later_in l.left l.ends) (reverse (take l.line-index l.lines));
}
