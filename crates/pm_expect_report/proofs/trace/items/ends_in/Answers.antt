use Rattle.pm_expect_report.proofs.trace.CheckLemmas.{ends_told}
use Rattle.pm_expect_report.proofs.trace.items.ends_in.Goals as goal

pub returns : goal.returns
returns c =
    ends_told c.end_items.result c.args.book.now.plan c.plan-plan.result.now c.args.book.now.lines c.lines.result.now c.finished.result c.parts.result.now.views c.args.expected.now.ends c.as_slice.result.now
    c.in_ok-judged.judged.items c.deref.result.now c.plan-plan.ensures c.lines.ensures.lines c.finished.ensures c.parts.ensures.views c.as_slice.ensures c.in_ok-judged.ensures c.deref.ensures.value c.end_items.ensures
