-- By the rest that goes on.
use Rattle.std.proofs.Common.{◌++◌, ℕ, List, Option, subst, sym}
use Rattle.pm_audit.specs.Auditing.{AuditorStandsFor}
use Rattle.pm_audit.proofs.Telling.{keep_says}
use Rattle.pm_audit.proofs.auditor.Auditor.keep.Goals as goal

pub returns-clause-stands : goal.returns-clause-stands
returns-clause-stands g c = λ b says.
    let a = c.args.self.now in
    subst (λ (o : Option (List ℕ)). AuditorStandsFor g.T.LineTaker.StandsFor (record a { rest = o }) (b ++ c.args.piece.now)) (sym c.push.ensures) (keep_says g.T.LineTaker.StandsFor a b c.args.piece.now c.requires says)
