use Rattle.std.proofs.Common.{◌≡◌, take}
use Rattle.pm_expect.specs.verdicts.Verdicts.{returns_of}
use Rattle.pm_expect.proofs.verdicts.answering.returns_of.Given as goal

-- those so far
abbrev pub invariant-loop-returned : goal.invariant-loop-returned
invariant-loop-returned l = l.mine.items ≡ returns_of l.caller l.command (take l.returned-index l.all)
