use Rattle.std.proofs.Common.{[]}
use Rattle.pm_sheet.specs.svg.Shapes.{Draws}
use Rattle.pm_picture.proofs.calls.write_waits.Given as goal

-- nothing but words so far
abbrev pub invariant-loop : goal.invariant-loop
invariant-loop l = Draws [] l.fn.pen.drawing l.pen.drawing
