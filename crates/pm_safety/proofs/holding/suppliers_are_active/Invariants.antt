use Rattle.std.proofs.Common.{◌≡◌, true, take}
use Rattle.std.specs.List.{enumerate_from, list_all}
use Rattle.pm_safety.specs.Inspected.{has_active}
use Rattle.pm_safety.proofs.holding.suppliers_are_active.Given as goal

-- the supplier of each so far is Active
abbrev pub invariant-loop-link : goal.invariant-loop-link
invariant-loop-link l = list_all (has_active l.parts.views l.dev) (take l.link (enumerate_from 0 l.plan.links)) ≡ true
