-- By the lines that are kept.
use Rattle.pm_book.specs.Takings.{TakerStandsFor}
use Rattle.pm_audit.specs.Auditing.{AuditorStandsFor}
use Rattle.pm_audit.proofs.Telling.{loaded_books, no_book}
use Rattle.pm_audit.proofs.loading.Auditor+Taker.book.Goals as goal

pub returns-in-Ok-clause-loaded : goal.returns-in-Ok-clause-loaded
returns-in-Ok-clause-loaded c =
    let a = c.args.self in
    loaded_books a.reader.judge.plan c.in-Ok.taker (AuditorStandsFor TakerStandsFor a) c.book_of.result c.in-Ok.ensures.plan c.in-Ok.ensures.taken c.book_of.ensures.plan c.book_of.ensures.lines

pub returns-in-Ok-clause-refused : goal.returns-in-Ok-clause-refused
returns-in-Ok-clause-refused c =
    let a = c.args.self in
    no_book a.reader.judge.plan (AuditorStandsFor TakerStandsFor a) c.book_of.result c.book_of.ensures.err
