-- By what the taker answers.
use Rattle.std.proofs.Common.{◌∙◌, ap}
use Rattle.pm_book.specs.Judging.{Judged}
use Rattle.pm_audit.specs.Readings.{ReaderStandsFor, reading_of}
use Rattle.pm_audit.proofs.Lines.{read_ok, spelled_as}
use Rattle.pm_audit.proofs.reader.read.Goals as goal

pub returns-in-Ok-clause-read : goal.returns-in-Ok-clause-read
returns-in-Ok-clause-read g c = λ h lawful stands.
    let j = g.T.LineTaker.judged c.args.taker.now in
    let spelled = spelled_as c.args.is_format2 c.plan.result.now j.plan c.last_time.result j.last c.in-Some.line c.args.text.now (c.plan.ensures ∙ ap (λ (it : Judged). it.plan) c.its_judge-judge.ensures) (c.last_time.ensures.time ∙ ap (λ (it : Judged). it.last) c.its_judge-judge.ensures) c.in-Some.ensures.some in
    let taken = c.in-Ok.ensures.taken h lawful stands.taken in
    read_ok c.args.is_format2 j (ReaderStandsFor g.T.LineTaker.StandsFor (reading_of g.T.LineTaker.judged g.T.LineTaker.subject c.take.new.self)) h c.in-Some.line c.args.text.now stands.judged spelled (c.in-Ok.ensures.answer h lawful stands.judged) (record { judged = g.met.T.LineTaker.judges _ _ taken; taken = taken })
