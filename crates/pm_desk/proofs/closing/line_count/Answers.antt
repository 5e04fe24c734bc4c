use Rattle.std.proofs.Common.{arith}
use Rattle.pm_desk.proofs.CloseLemmas.{few_shown}
use Rattle.pm_desk.proofs.closing.line_count.Goals as goal

pub overflow_cast-result : goal.overflow_cast-result
overflow_cast-result c =
    let few = few_shown c.args.book.now.plan c.args.book.now.lines c.lines.result.now c.lines.ensures.lawful c.lines.ensures.lines in omega (arith, few)
