use Rattle.std.proofs.Common.{◌≡◌, ◌-◌, length, nat_eq}
use Rattle.std.specs.List.{list_any}
use Rattle.pm_model.specs.PlanRows.{chain}
use Rattle.pm_safety.proofs.dependencies.domains.is_among.Given as goal

-- it is none of those so far
abbrev pub invariant-loop-step : goal.invariant-loop-step
invariant-loop-step l =
    list_any (nat_eq l.wanted.0) (chain l.rows (length l.rows - l._step) l.next) ≡ list_any (nat_eq l.wanted.0) (chain l.rows (length l.rows) l.fn.lowest)
