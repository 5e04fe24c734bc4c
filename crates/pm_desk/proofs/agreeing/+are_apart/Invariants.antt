use Rattle.std.proofs.Common.{length}
use Rattle.pm_desk.proofs.agreeing.+are_apart.Given as goal

abbrev pub decreases-are_apart : goal.decreases-are_apart
decreases-are_apart l = length l.passes.now
