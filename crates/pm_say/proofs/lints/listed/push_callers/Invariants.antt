use Rattle.std.proofs.Common.{◌≡◌, ◌++◌}
use Rattle.pm_say.proofs.lints.RowLemmas.{said_from}
use Rattle.pm_say.specs.lints.Warnings.{of_rows, of_caller}
use Rattle.pm_say.proofs.lints.listed.push_callers.Given as goal

-- what is said so far, and what is left to say of the rows
abbrev pub invariant-loop-caller : goal.invariant-loop-caller
invariant-loop-caller l = l.out.items ++ said_from (of_caller l.plan) l.caller l.plan.callers ≡ l.fn.out.items ++ of_rows (of_caller l.plan) l.plan.callers
