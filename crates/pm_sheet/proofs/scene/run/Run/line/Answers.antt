use Rattle.pm_book.proofs.InOrder.{line_at}
use Rattle.pm_lanes.proofs.ShowLemmas.{no_line}
use Rattle.pm_sheet.proofs.scene.run.Run.line.Goals as goal

pub returns-then-place-self : goal.returns-then-place-self
returns-then-place-self c = line_at c.args.self.now.plan.now c.args.self.now.lines.now c.in_ok-place.field-0 no_line c.if-place-self.true c.args.self.now.of_plan
