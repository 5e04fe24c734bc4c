use Rattle.std.proofs.Common.{◌≡◌, ◌++◌, map, take}
use Rattle.pm_find.specs.findings.AllFound.{domain_at}
use Rattle.pm_find.proofs.findings.breaking.push_domains.Given as goal

-- those so far
abbrev pub invariant-loop-domain : goal.invariant-loop-domain
invariant-loop-domain l = l.all.items ≡ l.fn.all.items ++ map (domain_at l.number) (take l.domain-index l.left)
