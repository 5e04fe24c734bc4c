use Rattle.std.proofs.Common.{take}
use Rattle.std.specs.List.{list_any}
use Rattle.pm_say.specs.lints.Marks.{Adds}
use Rattle.pm_say.specs.lints.Scripts.{does_to}
use Rattle.pm_say.proofs.lints.marks.mark_script.Given as goal

-- what the commands so far do
abbrev pub invariant-loop-command : goal.invariant-loop-command
invariant-loop-command l = Adds (λ d. list_any (does_to l.deed d) (take l.command-index l.script)) l.fn.marks l.marks
