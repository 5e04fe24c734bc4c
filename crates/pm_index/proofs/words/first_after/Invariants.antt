use Rattle.std.proofs.Common.{◌*◌, ◌-◌, ◌≤◌, length}
use Rattle.pm_index.specs.Words.{NoBit}
use Rattle.pm_index.proofs.words.first_after.Given as goal

abbrev pub invariant-loop-at : goal.invariant-loop-at
invariant-loop-at l = record { above : l.from ≤ l.at; none : NoBit l.words l.from l.at }

abbrev pub decreases-loop-at : goal.decreases-loop-at
decreases-loop-at l = 64 * length l.words - l.at
