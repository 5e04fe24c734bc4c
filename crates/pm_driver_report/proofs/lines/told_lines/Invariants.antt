use Rattle.std.proofs.Common.{◌≡◌, take}
use Rattle.std.specs.List.{filter}
use Rattle.pm_driver_report.specs.Lines.{is_told}
use Rattle.pm_driver_report.proofs.lines.told_lines.Given as goal

abbrev pub invariant-loop-line : goal.invariant-loop-line
invariant-loop-line l = l.told.items ≡ filter (is_told l.notes) (take l.line-index l.lines)
