use Rattle.pm_audit.specs.Auditing.{reason_of}
use Rattle.pm_cmd_lab.proofs.picture.DrawLemmas.{drawn_bad, drawn_lawful}
use Rattle.pm_cmd_lab.proofs.picture.telling.drawn_of.Goals as goal

pub returns-in-Ok : goal.returns-in-Ok
returns-in-Ok c =
    drawn_lawful c.drawn_book.result c.args.plan c.in-Ok.book.lines c.args.file.now c.args.bytes.now c.args.json c.in-Ok.ensures.lawful c.in-Ok.ensures.stands c.drawn_book.ensures

pub returns-in-Err-No : goal.returns-in-Err-No
returns-in-Err-No c =
    drawn_bad c.unlawful.result c.args.plan c.args.file.now c.args.bytes.now c.args.json c.in-Err-No.line (reason_of c.in-Err-No.why)
    (rw c.in-Err-No.field-0-is at c.in-Err-No.ensures.refused) c.unlawful.ensures
