use Rattle.pm_say.proofs.lints.PlanLemmas.{script_lawful}
use Rattle.pm_say.proofs.lints.listed.push_callers.Goals as goal

pub push_caller-requires-clause-lawful : goal.push_caller-requires-clause-lawful
push_caller-requires-clause-lawful c =
    script_lawful c.args.plan.now _ c.loop-caller.caller c.row-item.result c.as_slice-row-items.ensures c.loop-caller-test.true c.row-item.is
