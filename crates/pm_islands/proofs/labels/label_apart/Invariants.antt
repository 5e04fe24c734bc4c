use Rattle.std.proofs.Common.{◌≡◌, ◌<◌, ℕ}
use Rattle.pm_islands.specs.Labels.{label_at}
use Rattle.pm_islands.proofs.labels.label_apart.Given as goal

abbrev pub invariant-loop-place : goal.invariant-loop-place
invariant-loop-place l = (k : ℕ) → k < l.place → label_at l.labels k ≡ k
