use Rattle.std.proofs.Common.{◌≡◌, true, not, take}
use Rattle.std.specs.List.{list_all}
use Rattle.pm_state.proofs.finished.none_queued.Given as goal

-- none of the devices so far is queued
abbrev pub invariant-loop-device : goal.invariant-loop-device
invariant-loop-device l = list_all (λ p. not p.queued) (take l.device l.parts.views.pending) ≡ true
