use Rattle.std.proofs.Common.{◌∙◌, ◌++◌, ap}
use Rattle.pm_sheet.specs.svg.Shapes.{OfRule, rule_text}
use Rattle.pm_sheet.proofs.svg.DrawLemmas.{shapes_either}
use Rattle.pm_sheet.proofs.svg.drawing.Drawing.rule.Goals as goal

pub invariant_of-self-2 : goal.invariant_of-self-2
invariant_of-self-2 c =
    shapes_either c.append.result c.self.inside.text.items c.append.new.text.items c.deref.result.now (OfRule c.args.rule.now) c.self.invariant
    (c.deref.ensures.value ∙ c.in_ok-push_rule.ensures ∙ ap (λ l. l ++ rule_text c.args.rule.now) c.clear.ensures.items) c.append.ensures.ok c.append.ensures.err
