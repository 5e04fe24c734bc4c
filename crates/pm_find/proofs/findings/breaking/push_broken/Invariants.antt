use Rattle.std.proofs.Common.{◌≡◌, ◌++◌, map, take}
use Rattle.pm_find.specs.findings.AllFound.{broken_off}
use Rattle.pm_find.proofs.findings.breaking.push_broken.Given as goal

-- those so far
abbrev pub invariant-loop-bond : goal.invariant-loop-bond
invariant-loop-bond l = l.all.items ≡ l.fn.all.items ++ map (broken_off l.number) (take l.bond-index l.broken)
