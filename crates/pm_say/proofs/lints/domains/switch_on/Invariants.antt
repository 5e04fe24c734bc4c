use Rattle.std.proofs.Common.{ℕ, ◌≡◌, ◌<◌, ◌-◌, ◌||◌, false, length, nat_eq, slice_index_or}
use Rattle.std.specs.List.{list_any}
use Rattle.pm_model.specs.PlanRows.{chain}
use Rattle.pm_say.proofs.lints.domains.switch_on.Given as goal

-- what is marked, and what is left of the chain
abbrev pub invariant-loop-step : goal.invariant-loop-step
invariant-loop-step l =
    (o : ℕ) → o < length l.fn.on
    → (slice_index_or l.on o false || list_any (nat_eq o) (chain l.rows (length l.rows - l._step) l.next))
    ≡ (slice_index_or l.fn.on o false || list_any (nat_eq o) (chain l.rows (length l.rows) l.fn.lowest))
