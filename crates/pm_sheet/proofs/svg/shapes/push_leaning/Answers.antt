use Rattle.pm_sheet.specs.svg.Shapes.{leaning}
use Rattle.pm_sheet.proofs.svg.DrawLemmas.{three}
use Rattle.pm_sheet.proofs.svg.shapes.push_leaning.Goals as goal

pub returns : goal.returns
unfolding leaning
returns c =
    three c.push.result c.args.text.now.items c.push_attribute.new.text.items c.push_attribute-2.new.text.items c.push.new.text.items _ _ _ c.in_ok-push_attribute.ensures c.in_ok-push_attribute-2.ensures c.push.ensures
