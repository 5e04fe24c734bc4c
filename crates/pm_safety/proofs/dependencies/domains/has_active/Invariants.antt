use Rattle.std.proofs.Common.{◌≡◌, ◌-◌, length}
use Rattle.std.specs.List.{list_any, range_with_len}
use Rattle.pm_safety.specs.dependencies.Domains.{is_active_within, places}
use Rattle.pm_safety.proofs.dependencies.domains.has_active.Given as goal

-- none of those so far is Active
abbrev pub invariant-loop-place : goal.invariant-loop-place
invariant-loop-place l =
    list_any (is_active_within l.plan l.parts.views l.wanted.0) (range_with_len l.place (length l.plan.devices - l.place))
    ≡ list_any (is_active_within l.plan l.parts.views l.wanted.0) (places l.plan)
