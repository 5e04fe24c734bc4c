use Rattle.std.proofs.Common.{◌≡◌, length}
use Rattle.pm_outcomes.specs.text.Texts.{differs}
use Rattle.pm_outcomes.proofs.text.differing.differs.Given as goal

abbrev pub invariant-loop-left : goal.invariant-loop-left
invariant-loop-left l = differs l.left ≡ differs l.outcomes

abbrev pub decreases-loop-left : goal.decreases-loop-left
decreases-loop-left l = length l.left
