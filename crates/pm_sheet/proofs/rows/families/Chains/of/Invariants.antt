use Rattle.std.proofs.Common.{◌≤◌, length}
use Rattle.pm_sheet.proofs.rows.families.Chains.of.Given as goal

-- a place in the list, or its end
abbrev pub invariant-loop-place : goal.invariant-loop-place
invariant-loop-place l = l.place ≤ length l.parents

abbrev pub decreases-loop-place : goal.decreases-loop-place
decreases-loop-place l = l.place
