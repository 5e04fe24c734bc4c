use Rattle.pm_device.proofs.PlanLemmas.{parent_earlier}
use Rattle.pm_device.proofs.rows.parent.Goals as goal

pub returns-clause-earlier : goal.returns-clause-earlier
returns-clause-earlier c = parent_earlier c.args.plan.now c.args.dev c.row.result.now c.row.ensures
