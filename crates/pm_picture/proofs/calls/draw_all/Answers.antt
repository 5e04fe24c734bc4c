use Rattle.std.proofs.Common.{◌≤◌, length, map, take, subst}
use Rattle.std.proofs.lemmas.List.{take_all}
use Rattle.pm_sheet.specs.svg.Shapes.{Draws}
use Rattle.pm_picture.specs.Calls.{bar_of}
use Rattle.pm_picture.proofs.CallLemmas.{call_more, words_more}
use Rattle.pm_picture.proofs.calls.draw_all.Goals as goal

pub loop-call-preserved : goal.loop-call-preserved
loop-call-preserved c =
    let ground = c.args.ground.now in
    call_more (bar_of ground.frame.left ground.columns.now.xs.items ground.columns.now.width) ground.run.calls.now c.loop-call.call-index _ c.with_note-bar.result.call c.args.pen.now.drawing c.loop-call.pen.drawing
    c.write_waits.new.pen.drawing c.draw_whole.new.pen.drawing c.loop-call-test.true c.with_note-bar.ensures.call c.loop-call.invariant c.in_ok-write_waits.ensures
    (c.in_ok-draw_whole.ensures ground.columns.now.xs.items ground.columns.now.width c.with_note-bar.ensures.span)

pub returns : goal.returns
returns c =
    let ground = c.args.ground.now in
    let calls = ground.run.calls.now in
    let f = bar_of ground.frame.left ground.columns.now.xs.items ground.columns.now.width in
    words_more c.write_waits-2.result (map f calls) c.args.pen.now.drawing c.loop-call.pen.drawing c.write_waits-2.new.pen.drawing
    (subst (λ l. Draws (map f l) c.args.pen.now.drawing c.loop-call.pen.drawing) (take_all c.loop-call.call-index calls c.loop-call-test.false) c.loop-call.invariant) c.write_waits-2.ensures
