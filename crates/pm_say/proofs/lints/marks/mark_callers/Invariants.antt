use Rattle.std.proofs.Common.{take}
use Rattle.std.specs.List.{list_any}
use Rattle.pm_say.specs.lints.Marks.{Adds}
use Rattle.pm_say.specs.lints.Scripts.{does_to}
use Rattle.pm_say.proofs.lints.marks.mark_callers.Given as goal

-- what the scripts so far do
abbrev pub invariant-loop-caller : goal.invariant-loop-caller
invariant-loop-caller l = Adds (λ d. list_any (λ row. list_any (does_to l.deed d) row.script) (take l.caller-index l.callers)) l.fn.marks l.marks
