use Rattle.std.proofs.Common.{◌≡◌, ◌++◌, drop}
use Rattle.pm_driver_runs.specs.PlanText.{each_text, later_code}
use Rattle.pm_driver_runs.proofs.collected.keys.push_later_codes.Given as goal

abbrev pub invariant-loop-code : goal.invariant-loop-code
invariant-loop-code l = l.text.items ++ each_text later_code (drop l.code-index l.codes) ≡ l.initial.text.items ++ each_text later_code l.codes
