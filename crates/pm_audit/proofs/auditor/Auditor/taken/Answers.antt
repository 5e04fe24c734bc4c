-- By what the reader takes lines by.
use Rattle.pm_audit.proofs.Telling.{taken_whole}
use Rattle.pm_audit.proofs.auditor.Auditor.taken.Goals as goal

pub returns-clause-taken : goal.returns-clause-taken
returns-clause-taken g c = λ b says.
    let t = g.T.LineTaker in
    taken_whole t.StandsFor t.judged t.subject c.args.self.reader c.into_taker.result b c.into_taker.ensures (c.in_default.ensures.none b says)
