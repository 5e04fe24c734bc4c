use Rattle.std.proofs.Common.{map, take}
use Rattle.pm_sheet.specs.svg.Shapes.{Draws}
use Rattle.pm_picture.specs.Calls.{bar_of}
use Rattle.pm_picture.proofs.calls.draw_all.Given as goal

-- the calls so far
abbrev pub invariant-loop-call : goal.invariant-loop-call
invariant-loop-call l = Draws (map (bar_of l.ground.frame.left l.ground.columns.now.xs.items l.ground.columns.now.width) (take l.call-index l.ground.run.calls.now)) l.fn.pen.drawing l.pen.drawing
