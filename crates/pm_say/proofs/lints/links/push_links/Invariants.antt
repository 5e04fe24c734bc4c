use Rattle.std.proofs.Common.{◌≡◌, ◌++◌}
use Rattle.pm_say.proofs.lints.RowLemmas.{said_from}
use Rattle.pm_say.specs.lints.Warnings.{of_rows, of_link}
use Rattle.pm_say.proofs.lints.links.push_links.Given as goal

-- what is said so far, and what is left to say of the rows
abbrev pub invariant-loop-link : goal.invariant-loop-link
invariant-loop-link l = l.out.items ++ said_from (of_link l.plan) l.link l.plan.links ≡ l.fn.out.items ++ of_rows (of_link l.plan) l.plan.links
