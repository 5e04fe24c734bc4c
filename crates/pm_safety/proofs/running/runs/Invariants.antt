use Rattle.std.proofs.Common.{◌≡◌, length, reverse}
use Rattle.pm_model.specs.Counted.{runs}
use Rattle.pm_safety.proofs.running.runs.Given as goal

-- the lines left say what all do
abbrev pub invariant-loop-line : goal.invariant-loop-line
invariant-loop-line l = runs l.cb l.dev (reverse l.rest) ≡ runs l.cb l.dev (reverse l.lines)

abbrev pub decreases-loop-line : goal.decreases-loop-line
decreases-loop-line l = length l.rest
