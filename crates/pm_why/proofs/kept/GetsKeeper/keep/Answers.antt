use Rattle.pm_why.proofs.GetLemmas.{tells_more}
use Rattle.pm_why.proofs.kept.GetsKeeper.keep.Goals as goal

pub returns-clause-kept : goal.returns-clause-kept
returns-clause-kept c = λ h number later told.
    tells_more c.args.self.now.dev c.args.number c.args.line.now h c.args.self.now.found c.go_on.new.found number c.go_on.ensures told
