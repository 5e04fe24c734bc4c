use Rattle.std.proofs.Common.{◌≡◌, ◌+◌, ◌<◌, length}
use Rattle.std.specs.Prelude.{IfSome}
use Rattle.pm_model.specs.PlanRows.{chain}
use Rattle.pm_domain.specs.Walk.{rank, those_off}
use Rattle.pm_domain.proofs.walk.count_off.Given as goal

abbrev pub invariant-loop-next : goal.invariant-loop-next
invariant-loop-next l = record {
  in_range : IfSome l.next (λ o. o.0 < length l.plan.domains);
  left : l.count + length (those_off l.on.bits (chain l.plan.domains (length l.plan.domains) l.next)) ≡ length (those_off l.on.bits (chain l.plan.domains (length l.plan.domains) l.fn.first));
}

abbrev pub decreases-loop-next : goal.decreases-loop-next
decreases-loop-next l = rank l.next
