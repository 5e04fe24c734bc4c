use Rattle.pm_find.specs.trace.Texts.{files_of}
use Rattle.pm_expect_report.proofs.trace.CheckLemmas.{told_ktap, told_plain}
use Rattle.pm_expect_report.proofs.trace.checking.run_told.Goals as goal

pub returns-then-ktap : goal.returns-then-ktap
returns-then-ktap c =
    told_ktap c.ktap_run.result c.args.book.now.plan c.args.book.now.lines c.args.file.now c.args.text.now c.args.expected.now (files_of c.args.trace.now c.args.plan_file) c.args.ktap c.args.notes c.if-ktap.true c.ktap_run.ensures

pub returns-else-ktap : goal.returns-else-ktap
returns-else-ktap c =
    told_plain c.plain_run.result c.args.book.now.plan c.args.book.now.lines c.args.file.now c.args.text.now c.args.expected.now (files_of c.args.trace.now c.args.plan_file) c.args.ktap c.args.notes c.if-ktap.false c.plain_run.ensures
