use Rattle.pm_link.specs.Marked.{starts_live}
use Rattle.pm_link.proofs.MarkLemmas.{AreMarkedUpTo}
use Rattle.pm_link.proofs.marks.live_at_first.Given as goal

abbrev pub invariant-loop-rank : goal.invariant-loop-rank
invariant-loop-rank l = AreMarkedUpTo (starts_live l.rows) l.order l.rank l.bits
