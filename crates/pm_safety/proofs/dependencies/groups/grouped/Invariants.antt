use Rattle.pm_safety.specs.dependencies.Grouped.{AreGroups}
use Rattle.pm_safety.proofs.dependencies.groups.grouped.Given as goal

-- the places so far are in their groups
abbrev pub invariant-loop-place : goal.invariant-loop-place
invariant-loop-place l = AreGroups l.count l.place l.owners l.groups.items
