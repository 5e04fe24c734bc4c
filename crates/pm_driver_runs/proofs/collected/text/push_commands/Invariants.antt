use Rattle.std.proofs.Common.{◌≡◌, ◌++◌, drop}
use Rattle.pm_driver_runs.specs.PlanText.{each_text, command_line}
use Rattle.pm_driver_runs.proofs.collected.text.push_commands.Given as goal

abbrev pub invariant-loop-command : goal.invariant-loop-command
invariant-loop-command l = l.text.items ++ each_text (command_line l.plan) (drop l.command-index l.script) ≡ l.initial.text.items ++ each_text (command_line l.plan) l.script
