use Rattle.std.proofs.Common.{◌≡◌, ◌-◌, length}
use Rattle.std.specs.List.{find, range_with_len}
use Rattle.pm_find.specs.findings.Ending.{holds_supplier}
use Rattle.pm_find.proofs.findings.ending.holding_link.Given as goal

-- none of those so far does
abbrev pub invariant-loop-link : goal.invariant-loop-link
invariant-loop-link l =
    find (holds_supplier l.plan l.parts.views l.dev) (range_with_len l.link (length l.plan.links - l.link))
    ≡ find (holds_supplier l.plan l.parts.views l.dev) (range_with_len 0 (length l.plan.links))
