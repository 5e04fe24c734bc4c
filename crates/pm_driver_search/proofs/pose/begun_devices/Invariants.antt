use Rattle.std.proofs.Common.{◌≡◌, map, take}
use Rattle.pm_driver_flat.specs.Flat.{begun_so}
use Rattle.pm_driver_search.proofs.pose.begun_devices.Given as goal

abbrev pub invariant-loop-device : goal.invariant-loop-device
invariant-loop-device l = l.out.items ≡ map (begun_so l.begun) (take l.device-index l.devices)
