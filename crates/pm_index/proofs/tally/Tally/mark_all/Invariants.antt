use Rattle.std.proofs.Common.{◌≡◌, ◌<◌, ℕ, length, true}
use Rattle.pm_index.specs.OwnMarks.{bit_at}
use Rattle.pm_index.proofs.tally.Tally.mark_all.Given as goal

abbrev pub invariant-loop-place : goal.invariant-loop-place
invariant-loop-place l = record {
  owners : l.self.owners ≡ l.fn.self.owners;
  long : length l.self.bits ≡ length l.fn.self.owners;
  marked : (k : ℕ) → k < l.place → bit_at l.self.bits k ≡ true;
}
