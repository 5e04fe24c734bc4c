use Rattle.std.proofs.Common.{◌≡◌, map, take}
use Rattle.pm_sheet.specs.columns.Axis.{fitted}
use Rattle.pm_sheet.proofs.columns.axis.Columns.fit.Given as goal

-- the lines so far
abbrev pub invariant-loop-x : goal.invariant-loop-x
invariant-loop-x l = l.xs.items ≡ map (fitted l.fn.self.width) (take l.x-index l.fn.self.xs.items)
