use Rattle.std.proofs.Common.{◌≡◌, ◌+◌, ◌<◌, ℕ, length}
use Rattle.std.specs.Prelude.{IfSome}
use Rattle.pm_model.specs.PlanRows.{chain}
use Rattle.pm_domain.specs.Walk.{switched}
use Rattle.pm_domain.proofs.walk.switch.Given as goal

abbrev pub invariant-chain : goal.invariant-chain
invariant-chain l = record {
  owners : l.on.owners ≡ l.fn.on.owners;
  in_range : IfSome l.next (λ o. o.0 < length l.plan.domains);
  left : (k : ℕ) → l.counter + k ≡ l.most → switched l.to l.on.bits (chain l.plan.domains k l.next) ≡ switched l.to l.fn.on.bits (chain l.plan.domains l.most l.fn.first);
}
