use Rattle.pm_driver_orders.proofs.RunLemmas.{stands_as}
use Rattle.pm_driver_orders.specs.DriverSchedules.{lines_of}
use Rattle.pm_driver_runs.proofs.Collecting.{collect, collected, collected_is_lawful}
use Rattle.pm_driver_runs.proofs.collected_schedules_are_lawful.Goals as goal
use Rattle.std.proofs.Common.{[], refl}

pub returns : goal.returns
returns c = record {
  lawful = λ pace D most turns law few o. collected_is_lawful pace D most turns law few o;
  stands = λ pace D most turns law few o. (let run = collect pace D most (lines_of turns) law turns [] refl few o in stands_as D (collected D (lines_of turns) law) turns run.stands);
}
