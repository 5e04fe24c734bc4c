use Rattle.pm_desk.proofs.CloseLemmas.{few_shown}
use Rattle.pm_desk.proofs.closing.first_wrong.Goals as goal

pub first_difference-requires : goal.first_difference-requires
first_difference-requires c = few_shown c.args.book.now.plan c.args.book.now.lines c.lines.result.now c.lines.ensures.lawful c.lines.ensures.lines
