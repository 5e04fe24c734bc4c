use Rattle.std.proofs.Common.{◌∙◌, ◌++◌, ap}
use Rattle.pm_sheet.specs.svg.Shapes.{OfLabel, label_text}
use Rattle.pm_sheet.proofs.svg.DrawLemmas.{shapes_either}
use Rattle.pm_sheet.proofs.svg.drawing.Drawing.label.Goals as goal

pub invariant_of-self-2 : goal.invariant_of-self-2
invariant_of-self-2 c =
    shapes_either c.append.result c.self.inside.text.items c.append.new.text.items c.deref.result.now (OfLabel c.args.label.now c.args.words.now c.args.title.now) c.self.invariant
    (c.deref.ensures.value ∙ c.in_ok-push_label.ensures ∙ ap (λ l. l ++ label_text c.args.label.now c.args.words.now c.args.title.now) c.clear.ensures.items) c.append.ensures.ok c.append.ensures.err
