use Rattle.std.proofs.Common.{◌≡◌, take}
use Rattle.pm_model.specs.Views.{Views}
use Rattle.pm_driver_orders.specs.Drivers.{next_place, places_from}
use Rattle.pm_driver_rules.specs.GoingOn.{driver_of}
use Rattle.pm_driver_search.proofs.pose.called_places.Given as goal

abbrev pub invariant-loop-caller : goal.invariant-loop-caller
invariant-loop-caller l = (v : Views) → v.devices ≡ l.devices → l.out.items ≡ places_from (next_place (driver_of l.rules) l.positions v) 0 (take l.caller l.called)
