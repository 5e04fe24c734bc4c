use Rattle.pm_picture.proofs.CallLemmas.{bars_are}
use Rattle.pm_picture.proofs.calls.draw_whole.Goals as goal

pub returns : goal.returns
returns c =
    bars_are c.write_words.result c.args.ground.now.frame.left c.args.bar.now.call c.args.bar.now.span c.saturating_sub.result c.args.pen.now.drawing c.point_at.new.self.drawing c.bar.new.self.drawing c.write_words.new.pen.drawing
    c.point_at.ensures c.saturating_sub.ensures c.in_ok-bar.ensures c.write_words.ensures
