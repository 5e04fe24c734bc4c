use Rattle.std.proofs.Common.{◌≡◌, ◌-◌, length}
use Rattle.std.specs.List.{find, range_with_len}
use Rattle.pm_find.specs.findings.Ending.{is_active_child}
use Rattle.pm_find.proofs.findings.ending.first_child.Given as goal

-- none of those so far is
abbrev pub invariant-loop-place : goal.invariant-loop-place
invariant-loop-place l =
    find (is_active_child l.plan l.parts.views l.dev) (range_with_len l.place (length l.plan.devices - l.place))
    ≡ find (is_active_child l.plan l.parts.views l.dev) (range_with_len 0 (length l.plan.devices))
