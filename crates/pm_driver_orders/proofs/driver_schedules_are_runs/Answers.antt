use Rattle.pm_driver_orders.proofs.RunLemmas.{lawful, run, stands_as}
use Rattle.pm_driver_orders.proofs.driver_schedules_are_runs.Goals as goal

pub returns : goal.returns
returns c = record {
  runs = λ pace D most r turns o g. (let x = run pace D most r turns o g in (x.permitted, stands_as D r turns x.stands));
  lawful = λ plan h o le. lawful plan h o le;
}
