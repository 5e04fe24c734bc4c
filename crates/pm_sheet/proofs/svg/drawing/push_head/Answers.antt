use Rattle.pm_sheet.specs.svg.Shapes.{head_text}
use Rattle.pm_sheet.proofs.svg.DrawLemmas.{five}
use Rattle.pm_sheet.proofs.svg.drawing.push_head.Goals as goal

pub returns : goal.returns
unfolding head_text
returns c =
    five c.push_sheet.result c.args.text.now.items c.push.new.text.items c.push_attribute.new.text.items c.push_attribute-2.new.text.items c.push-2.new.text.items c.push_sheet.new.text.items _ _ _ _ _
    c.in_ok-push.ensures c.in_ok-push_attribute.ensures c.in_ok-push_attribute-2.ensures c.in_ok-push-2.ensures c.push_sheet.ensures
