-- What the auditor says is what is told.
use Rattle.std.proofs.Common.{subst}
use Rattle.pm_audit.specs.Loading.{IsRefused}
use Rattle.pm_cmd_top.proofs.trace_books.book_of.Goals as goal

pub returns-in-Err-No-clause-refused : goal.returns-in-Err-No-clause-refused
returns-in-Err-No-clause-refused c = λ b fed. subst (IsRefused c.args.auditor.reader.judge.plan b) c.in-Err-No.field-0-is (c.in-Err-No.ensures.refused b fed)
