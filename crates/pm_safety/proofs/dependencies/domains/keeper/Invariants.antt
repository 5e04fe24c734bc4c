use Rattle.std.proofs.Common.{◌≡◌, ◌-◌, length}
use Rattle.std.specs.List.{find, range_with_len}
use Rattle.pm_safety.specs.dependencies.Domains.{keeps_on, places}
use Rattle.pm_safety.proofs.dependencies.domains.keeper.Given as goal

-- none of those so far keeps it on
abbrev pub invariant-loop-place : goal.invariant-loop-place
invariant-loop-place l =
    find (keeps_on l.plan l.parts.views l.wanted.0) (range_with_len l.place (length l.plan.devices - l.place))
    ≡ find (keeps_on l.plan l.parts.views l.wanted.0) (places l.plan)
