use Rattle.std.proofs.Common.{◌≡◌, length}
use Rattle.pm_show_top.proofs.parts.timers.shows.Given as goal

-- the devices stay
abbrev pub invariant-loop-step : goal.invariant-loop-step
invariant-loop-step l = length l.timers ≡ l.devices
