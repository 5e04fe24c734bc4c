use Rattle.std.proofs.Common.{subst}
use Rattle.pm_sheet.specs.svg.Shapes.{AreShapes}
use Rattle.pm_picture.proofs.CallLemmas.{picture_made}
use Rattle.pm_picture.proofs.picture.drawn.Goals as goal

pub returns : goal.returns
returns c =
    let columns = c.args.layout.now.columns in
    picture_made c.picture.result c.args.run.now.lines.now c.frame_of-frame.result.width c.frame_of-frame.result.height c.take-under.result c.in_ok-calls.calls c.take-over.result c.frame_of-frame.result.left columns.xs.items columns.width columns.is_whole
    c.args.run.now.calls.now c.picture.ensures (subst AreShapes c.under.view_is c.under.invariant) (subst AreShapes c.calls.view_is c.calls.invariant) (subst AreShapes c.over.view_is c.over.invariant) c.requires.each_line columns.in_order c.requires.whole c.args.run.now.each_call c.in_ok-calls.ensures
