use Rattle.std.proofs.Common.{length}
use Rattle.pm_audit.specs.Auditing.{HasRead}
use Rattle.pm_audit.proofs.auditor.Auditor.feed.Given as goal

abbrev pub invariant-lines : goal.invariant-lines
invariant-lines g l = HasRead g.T.LineTaker.StandsFor l.initial.left l.left l.initial.self l.self

abbrev pub decreases-lines : goal.decreases-lines
decreases-lines g l = length l.left
