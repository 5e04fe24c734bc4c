use Rattle.pm_audit.specs.Auditing.{reason_of}
use Rattle.pm_find.specs.trace.Texts.{files_of}
use Rattle.pm_find.proofs.trace.TellLemmas.{told_bad, told_lawful}
use Rattle.pm_find.proofs.trace.telling.told_of.Goals as goal

pub returns-in-Ok : goal.returns-in-Ok
returns-in-Ok c =
    told_lawful c.tell.result c.args.plan c.in-Ok.book.plan c.in-Ok.book.lines (files_of c.args.trace.now c.args.file) c.args.bytes.now c.args.notes
    c.in-Ok.ensures.plan c.in-Ok.ensures.lawful c.in-Ok.ensures.stands c.tell.ensures

pub returns-in-Err-No : goal.returns-in-Err-No
returns-in-Err-No c =
    told_bad c.tell_unlawful.result c.args.plan (files_of c.args.trace.now c.args.file) c.args.bytes.now c.args.notes c.in-Err-No.line (reason_of c.in-Err-No.why)
    (rw c.in-Err-No.field-0-is at c.in-Err-No.ensures.refused) c.tell_unlawful.ensures
