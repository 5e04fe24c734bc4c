-- By the derived test of equality.
use Rattle.std.proofs.Common.{◌∙◌, sym}
use Rattle.pm_book.proofs.Alike.{alike, itself}
use Rattle.pm_book.proofs.standing.same.Goals as goal

pub returns : goal.returns
returns c = (λ yes. alike c.args.one c.args.other (sym c.eq.ensures ∙ yes), λ is. c.eq.ensures ∙ itself c.args.one c.args.other is)
