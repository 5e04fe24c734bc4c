use Rattle.std.proofs.Common.{ℕ, ◌≡◌, ◌<◌, ◌||◌, ◌&&◌, Some, drop, false, length, nat_eq, slice_index_or}
use Rattle.std.specs.List.{enumerate_from, list_any}
use Rattle.pm_model.specs.PlanRows.{chain, is_kept_on}
use Rattle.pm_say.proofs.lints.domains.keep_on.Given as goal

-- what is marked, and what the rows that are left keep on
abbrev pub invariant-loop-place : goal.invariant-loop-place
invariant-loop-place l =
    (o : ℕ) → o < length l.fn.on
    → (slice_index_or l.on o false
    || list_any (λ p. p.1.always_on && list_any (nat_eq o) (chain l.rows (length l.rows) (Some (record { 0 = p.0 })))) (enumerate_from l.place (drop l.place l.rows)))
    ≡ (slice_index_or l.fn.on o false || is_kept_on l.rows o)
