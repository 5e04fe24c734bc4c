use Rattle.std.proofs.lemmas.Option.{IfSome_then}
use Rattle.pm_domain.proofs.ChainLemmas.{parent_earlier}
use Rattle.pm_domain.proofs.walk.parent.Goals as goal

pub returns-in-Some-clause-earlier : goal.returns-in-Some-clause-earlier
returns-in-Some-clause-earlier c =
    IfSome_then c.in-Some.row.now.parent (rw (← c.in-Some.ensures) at (parent_earlier c.args.plan.now c.args.dom)) (λ p h. h.0)

pub returns-in-Some-clause-in_range : goal.returns-in-Some-clause-in_range
returns-in-Some-clause-in_range c =
    IfSome_then c.in-Some.row.now.parent (rw (← c.in-Some.ensures) at (parent_earlier c.args.plan.now c.args.dom)) (λ p h. h.1)
