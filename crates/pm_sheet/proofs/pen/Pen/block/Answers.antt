use Rattle.std.proofs.Common.{[], ◌∷◌, OnOk, subst}
use Rattle.pm_sheet.specs.svg.Shapes.{Draws}
use Rattle.pm_sheet.proofs.PenLemmas.{block_ok}
use Rattle.pm_sheet.proofs.pen.Pen.block.Goals as goal

pub returns : goal.returns
returns c =
    subst (λ n. OnOk c.block.result (Draws (record { x = c.args.x; width = n } ∷ []) c.args.self.now.drawing c.block.new.self)) c.max.ensures
    (block_ok c.block.result c.args.self.now.drawing c.block.new.self (record { style = c.args.style; x = c.args.x; y = c.args.y; width = c.max.result; height = c.args.height }) c.deref.result.now c.block.ensures.ok)
