use Rattle.pm_driver_orders.proofs.RunLemmas.{back}
use Rattle.pm_driver_orders.proofs.runs_are_driver_schedules.Goals as goal

pub returns : goal.returns
returns c = λ pace D most r turns d. (let x = back pace D most r turns d in x.order)
