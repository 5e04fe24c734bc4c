use Rattle.std.proofs.Common.{◌∙◌}
use Rattle.pm_find.specs.trace.Texts.{files_of}
use Rattle.pm_expect_report.proofs.trace.CheckLemmas.{plain_told}
use Rattle.pm_expect_report.proofs.trace.checking.plain_run.Goals as goal

pub returns : goal.returns
returns c =
    plain_told c.with_failed.result c.args.book.now.plan c.args.book.now.lines c.args.file.now c.args.text.now c.args.expected.now (files_of c.args.trace.now c.args.plan_file) c.args.notes c.in_ok-found.found
    c.deref.result.now c.deref-3.result.now c.in_ok-failed.failed.items c.deref-2.result.now c.in_ok-found.ensures
    (c.deref.ensures.value ∙ c.in_ok-items.ensures) (c.deref-3.ensures.value ∙ c.in_ok-items.ensures) c.deref-2.ensures.value c.in_ok-failed.ensures c.with_failed.ensures.text c.with_failed.ensures.stands_out
