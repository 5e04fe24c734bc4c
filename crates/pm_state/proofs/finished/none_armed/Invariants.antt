use Rattle.std.proofs.Common.{◌≡◌, true, take, is_none}
use Rattle.std.specs.List.{list_all}
use Rattle.pm_state.proofs.finished.none_armed.Given as goal

-- none of the timers so far is armed
abbrev pub invariant-loop-device : goal.invariant-loop-device
invariant-loop-device l = list_all is_none (take l.device l.parts.views.timers) ≡ true
