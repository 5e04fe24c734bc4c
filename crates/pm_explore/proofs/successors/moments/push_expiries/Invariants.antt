use Rattle.std.proofs.Common.{take}
use Rattle.std.specs.List.{enumerate_from, filter_map}
use Rattle.pm_model.specs.Derived.{expiry}
use Rattle.pm_explore.specs.successors.Moments.{AreWith}
use Rattle.pm_explore.proofs.successors.moments.push_expiries.Given as goal

-- the expiries of the devices so far are noted
abbrev pub invariant-loop-dev : goal.invariant-loop-dev
invariant-loop-dev l = AreWith l.last.time l.initial.out.items (filter_map (λ p. expiry l.state.world.views (record { 0 = p.0 })) (take l.dev (enumerate_from 0 l.plan.devices))) l.out.items
