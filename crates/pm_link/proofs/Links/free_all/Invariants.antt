use Rattle.std.proofs.Common.{◌≡◌}
use Rattle.pm_link.proofs.PairLemmas.{freed, held_count}
use Rattle.pm_link.proofs.Links.free_all.Given as goal

abbrev pub invariant-loop-link : goal.invariant-loop-link
invariant-loop-link l = record {
  rows : l.self.rows ≡ l.initial.self.rows;
  present : l.self.present ≡ l.initial.self.present;
  as_before : freed l.consumer l.plan.links l.self.held ≡ freed l.consumer l.plan.links l.initial.self.held;
}

abbrev pub decreases-loop-link : goal.decreases-loop-link
decreases-loop-link l = held_count l.self.held
