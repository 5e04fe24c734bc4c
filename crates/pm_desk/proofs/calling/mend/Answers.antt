use Rattle.std.proofs.Common.{◌∙◌, ap, length, nat_eq}
use Rattle.pm_islands.proofs.PartLemmas.{length_scripts}
use Rattle.pm_desk.proofs.calling.mend.Goals as goal

pub returns-in_ok-book-clause-callers : goal.returns-in_ok-book-clause-callers
returns-in_ok-book-clause-callers c = ap length c.in_ok-book.ensures.plan.callers ∙ length_scripts (λ k. nat_eq 1 0) c.args.plan.now.callers
