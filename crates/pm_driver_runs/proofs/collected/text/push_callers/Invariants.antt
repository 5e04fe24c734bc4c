use Rattle.std.proofs.Common.{◌≡◌, ◌++◌, drop}
use Rattle.pm_driver_runs.specs.PlanText.{each_text, caller_section}
use Rattle.pm_driver_runs.proofs.collected.text.push_callers.Given as goal

abbrev pub invariant-loop-row : goal.invariant-loop-row
invariant-loop-row l = l.text.items ++ each_text (caller_section l.plan) (drop l.row-index l.rows) ≡ l.initial.text.items ++ each_text (caller_section l.plan) l.rows
