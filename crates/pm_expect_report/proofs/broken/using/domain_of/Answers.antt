use Rattle.pm_model.specs.PlanRows.{domain}
use Rattle.pm_expect_report.proofs.broken.using.domain_of.Goals as goal

pub returns-in-Some : goal.returns-in-Some
unfolding domain
returns-in-Some c = rw (← c.in-Some.ensures)

pub returns-in-None : goal.returns-in-None
unfolding domain
returns-in-None c = rw (← c.in-None.ensures)
