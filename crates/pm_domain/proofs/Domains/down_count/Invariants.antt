use Rattle.std.proofs.Common.{◌≡◌, ◌+◌, ◌<◌, None, length}
use Rattle.std.specs.Prelude.{IfSome}
use Rattle.pm_model.specs.PlanRows.{chain, domains_of}
use Rattle.pm_domain.specs.Walk.{going_off_from, rank}
use Rattle.pm_domain.proofs.Domains.down_count.Given as goal

abbrev pub invariant-loop-next : goal.invariant-loop-next
invariant-loop-next l = record {
  in_range : IfSome l.next (λ o. o.0 < length l.plan.domains);
  left : l.count + length (going_off_from l.plan l.self l.dev l.from (chain l.plan.domains (length l.plan.domains) l.next)) ≡ length (going_off_from l.plan l.self l.dev None (domains_of l.plan l.dev));
}

abbrev pub decreases-loop-next : goal.decreases-loop-next
decreases-loop-next l = rank l.next
