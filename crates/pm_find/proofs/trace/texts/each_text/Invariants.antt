use Rattle.std.proofs.Common.{take}
use Rattle.pm_find.specs.trace.Texts.{TellsEach, files_of}
use Rattle.pm_find.proofs.trace.texts.each_text.Given as goal

-- those so far are told
abbrev pub invariant-loop-found : goal.invariant-loop-found
invariant-loop-found l = TellsEach l.plan l.lines (files_of l.trace l.file) (take l.found-index l.all) l.text.items
