use Rattle.std.proofs.Common.{◌≡◌, false, take}
use Rattle.std.specs.List.{enumerate_from, list_any}
use Rattle.pm_safety.specs.Inspected.{is_bond}
use Rattle.pm_safety.proofs.holding.has_supplier.Given as goal

-- none of the links so far is one
abbrev pub invariant-loop-link : goal.invariant-loop-link
invariant-loop-link l = list_any (is_bond l.parts.views l.dev) (take l.link (enumerate_from 0 l.plan.links)) ≡ false
