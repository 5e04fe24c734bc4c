use Rattle.std.proofs.Common.{◌≡◌, length, take}
use Rattle.pm_device.proofs.fill.set_timers.Given as goal

-- the timers so far are as they are to be
abbrev pub invariant-loop-device : goal.invariant-loop-device
invariant-loop-device l = record {
  long : length l.timers ≡ length l.all;
  so_far : take l.device l.timers ≡ take l.device l.all;
}
