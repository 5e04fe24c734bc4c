use Rattle.pm_driver_orders.proofs.DriverPaths.{order, way}
use Rattle.pm_driver_orders.proofs.driver_schedules_are_paths.Goals as goal

pub returns : goal.returns
returns c = record {
  reached = λ pace D most turns o. way pace D most turns o;
  ordered = λ pace D most k s r. order pace D most r;
}
