use Rattle.pm_audit.specs.Auditing.{reason_of}
use Rattle.pm_find.specs.trace.Texts.{files_of}
use Rattle.pm_expect_report.proofs.trace.CheckLemmas.{told_bad, told_lawful}
use Rattle.pm_expect_report.proofs.trace.checking.check.Goals as goal

pub returns-in-Ok : goal.returns-in-Ok
returns-in-Ok c =
    told_lawful c.run_told.result c.args.plan c.in-Ok.book.plan c.in-Ok.book.lines c.args.file.now c.args.text.now c.args.expected.now (files_of c.args.trace.now c.args.plan_file) c.args.bytes.now c.args.ktap c.args.notes
    c.in-Ok.ensures.plan c.in-Ok.ensures.lawful c.in-Ok.ensures.stands c.run_told.ensures

pub returns-in-Err-No : goal.returns-in-Err-No
returns-in-Err-No c =
    told_bad c.bad_told.result c.args.plan c.args.file.now c.args.text.now c.args.expected.now (files_of c.args.trace.now c.args.plan_file) c.args.bytes.now c.args.ktap c.args.notes c.in-Err-No.line (reason_of c.in-Err-No.why)
    (rw c.in-Err-No.field-0-is at c.in-Err-No.ensures.refused) c.bad_told.ensures
