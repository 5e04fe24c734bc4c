use Rattle.std.proofs.Common.{◌≡◌, [], false, is_some, length, Some}
use Rattle.pm_audit.specs.Auditing.{HasRead, told_of}
use Rattle.pm_audit.proofs.auditor.Auditor.take_offered.Given as goal

abbrev pub invariant-lines : goal.invariant-lines
invariant-lines g l =
    HasRead g.T.LineTaker.StandsFor l.fn.bytes l.left l.initial.self l.self × (is_some l.self.bad ≡ false) × (l.self.rest ≡ Some []) × (Some l.is_format2 ≡ told_of l.self.format)

abbrev pub decreases-lines : goal.decreases-lines
decreases-lines g l = length l.left
