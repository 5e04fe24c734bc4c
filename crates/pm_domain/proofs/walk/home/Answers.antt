use Rattle.pm_model.specs.PlanRows.{domain}
use Rattle.pm_domain.proofs.ChainLemmas.{home_within}
use Rattle.pm_domain.proofs.walk.home.Goals as goal

pub returns-in-Some-clause-domain : goal.returns-in-Some-clause-domain
unfolding domain
returns-in-Some-clause-domain c = rw (← c.in-Some.ensures)

pub returns-in-None-clause-domain : goal.returns-in-None-clause-domain
unfolding domain
returns-in-None-clause-domain c = rw (← c.in-None.ensures)

pub returns-in-Some-clause-in_range : goal.returns-in-Some-clause-in_range
unfolding domain
returns-in-Some-clause-in_range c = rw (← c.in-Some.ensures) at (home_within c.args.plan.now c.args.dev)
