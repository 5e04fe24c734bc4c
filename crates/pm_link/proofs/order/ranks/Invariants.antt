use Rattle.std.proofs.Common.{◌≡◌, ◌<◌, ℕ, get_or, length}
use Rattle.pm_link.proofs.order.ranks.Given as goal

abbrev pub invariant-loop-rank : goal.invariant-loop-rank
invariant-loop-rank l = record {
  count_is : length l.ranks.items ≡ length l.order;
  each : (k : ℕ) → k < l.rank → get_or l.ranks.items (get_or l.order k 0) 0 ≡ k;
}
