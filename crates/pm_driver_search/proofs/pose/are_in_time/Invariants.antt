use Rattle.std.proofs.Common.{take}
use Rattle.std.specs.List.{All}
use Rattle.pm_device.specs.Parts.{IsInTime}
use Rattle.pm_driver_search.proofs.pose.are_in_time.Given as goal

abbrev pub invariant-loop-device : goal.invariant-loop-device
invariant-loop-device l = All IsInTime (take l.device-index l.devices)
