use Rattle.std.proofs.Common.{◌≡◌, ◌<◌, ℕ, length, take}
use Rattle.std.specs.List.{enumerate_from, list_any}
use Rattle.pm_index.specs.OwnMarks.{bit_at}
use Rattle.pm_domain.specs.Walk.{keeps_on}
use Rattle.pm_domain.proofs.start.switch_kept.Given as goal

abbrev pub invariant-loop-place : goal.invariant-loop-place
invariant-loop-place l = record {
  owners : l.on.owners ≡ l.fn.on.owners;
  long : length l.on.bits ≡ length l.plan.domains;
  kept : (k : ℕ) → k < length l.plan.domains → bit_at l.on.bits k ≡ list_any (keeps_on l.plan.domains k) (take l.place (enumerate_from 0 l.plan.domains));
}
