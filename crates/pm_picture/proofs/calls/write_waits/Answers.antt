use Rattle.std.proofs.Common.{[]}
use Rattle.pm_sheet.proofs.svg.DrawLemmas.{draws_both}
use Rattle.pm_picture.proofs.calls.write_waits.Goals as goal

pub loop-preserved : goal.loop-preserved
loop-preserved c = draws_both [] [] c.args.pen.now.drawing c.loop.pen.drawing c.write_piece.new.pen.drawing c.loop.invariant c.in_ok-write_piece.ensures
