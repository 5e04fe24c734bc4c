use Rattle.std.proofs.Common.{ℕ, ◌≡◌, ◌+◌, ◌++◌}
use Rattle.pm_model.specs.PlanRows.{chain}
use Rattle.pm_lanes.proofs.telling.chain.Given as goal

-- those so far, and those above them
abbrev pub invariant-chain : goal.invariant-chain
invariant-chain l = (k : ℕ) → l.counter + k ≡ l.most → l.all.items ++ chain l.plan.domains k l.next ≡ chain l.plan.domains l.most l.fn.first
