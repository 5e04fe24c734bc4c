use Rattle.std.proofs.Common.{◌≡◌, ◌++◌, take}
use Rattle.pm_safety.specs.dependencies.Kept.{excuses_by}
use Rattle.pm_safety.specs.dependencies.Told.{parent_bonds}
use Rattle.pm_safety.proofs.dependencies.told.push_parents.Given as goal

-- the devices so far
abbrev pub invariant-loop-place : goal.invariant-loop-place
invariant-loop-place l = l.bonds.items ≡ l.fn.bonds.items ++ parent_bonds l.plan l.parts.views (excuses_by l.pasts).parent (take l.place l.devices)
