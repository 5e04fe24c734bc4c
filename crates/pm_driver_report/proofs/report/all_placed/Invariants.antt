use Rattle.std.proofs.Common.{◌≡◌, ◌≤◌, All, length, map, take}
use Rattle.pm_driver_report.specs.declared.report.PlacedLine.{PlacedLine}
use Rattle.pm_driver_report.proofs.report.all_placed.Given as goal

abbrev pub invariant-loop-line : goal.invariant-loop-line
invariant-loop-line l =
    (map (λ (p : PlacedLine). p.line) l.placed.items ≡ take l.line-index l.lines) × All (λ (p : PlacedLine). p.span.end ≤ length l.bytes) l.placed.items
