use Rattle.std.proofs.Common.{◌≡◌}
use Rattle.pm_show_top.proofs.parts.links.take.Given as goal

-- they are links of this plan
abbrev pub invariant-loop-step : goal.invariant-loop-step
invariant-loop-step l = l.links.rows ≡ l.plan.links
