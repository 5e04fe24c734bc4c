-- No line is taken yet.
use Rattle.std.proofs.Common.{refl}
use Rattle.pm_audit.proofs.Telling.{starts, starts_of}
use Rattle.pm_audit.proofs.auditor.Auditor.of.Goals as goal

pub returns-clause-stands : goal.returns-clause-stands
returns-clause-stands g c =
    let t = g.T.LineTaker in
    starts t.StandsFor _ refl c.requires.rest refl (starts_of t.StandsFor t.judged t.subject c.of.result c.args.taker g.met.T.LineTaker.judges c.of.ensures c.requires.none)
