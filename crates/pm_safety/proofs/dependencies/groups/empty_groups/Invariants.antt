use Rattle.std.proofs.Common.{◌≡◌, [], replicate}
use Rattle.pm_safety.proofs.dependencies.groups.empty_groups.Given as goal

-- the groups so far
abbrev pub invariant-loop : goal.invariant-loop
invariant-loop l = l.groups.items ≡ replicate l.counter []
