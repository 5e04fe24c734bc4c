use Rattle.std.proofs.Common.{◌≡◌, length, take}
use Rattle.pm_device.proofs.Parts.set_devices.Given as goal

-- the devices so far are as they are to be
abbrev pub invariant-loop-device : goal.invariant-loop-device
invariant-loop-device l = record {
  rest : l.self ≡ record l.fn.self { views = record l.fn.self.views { devices = l.self.views.devices } };
  long : length l.self.views.devices ≡ length l.devices;
  so_far : take l.device l.self.views.devices ≡ take l.device l.devices;
}
