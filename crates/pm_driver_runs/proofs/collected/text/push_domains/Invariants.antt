use Rattle.std.proofs.Common.{◌≡◌, ◌++◌, drop}
use Rattle.pm_driver_runs.specs.PlanText.{each_text, domain_section}
use Rattle.pm_driver_runs.proofs.collected.text.push_domains.Given as goal

abbrev pub invariant-loop-row : goal.invariant-loop-row
invariant-loop-row l = l.text.items ++ each_text (domain_section l.plan) (drop l.row-index l.rows) ≡ l.initial.text.items ++ each_text (domain_section l.plan) l.rows
