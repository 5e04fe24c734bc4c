use Rattle.std.proofs.Common.{take}
use Rattle.pm_say.specs.lint_text.Told.{TellsEach}
use Rattle.pm_say.proofs.lint_text.told.each_text.Given as goal

-- those so far are told
abbrev pub invariant-loop-warning : goal.invariant-loop-warning
invariant-loop-warning l = TellsEach l.file l.bytes (take l.warning-index l.warnings) l.out.items
