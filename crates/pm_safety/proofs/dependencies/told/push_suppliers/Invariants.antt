use Rattle.std.proofs.Common.{◌≡◌, ◌++◌, take}
use Rattle.pm_safety.specs.dependencies.Kept.{excuses_by}
use Rattle.pm_safety.specs.dependencies.Told.{supplier_bonds}
use Rattle.pm_safety.proofs.dependencies.told.push_suppliers.Given as goal

-- the links so far
abbrev pub invariant-loop-place : goal.invariant-loop-place
invariant-loop-place l = l.bonds.items ≡ l.fn.bonds.items ++ supplier_bonds l.plan l.parts.views (excuses_by l.pasts).supplier (take l.place l.links)
