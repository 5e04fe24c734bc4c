use Rattle.std.proofs.Common.{◌≡◌, length}
use Rattle.pm_device.specs.Parts.{IsFor}
use Rattle.pm_show_top.proofs.parts.counters.show.Given as goal

-- they are counters of this plan
abbrev pub invariant-loop-step : goal.invariant-loop-step
invariant-loop-step l = IsFor l.plan l.parts.shape × (length l.parts.shape.parents ≡ 3)
