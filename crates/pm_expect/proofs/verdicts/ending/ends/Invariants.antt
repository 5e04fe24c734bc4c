use Rattle.std.proofs.Common.{◌≡◌, map, take}
use Rattle.pm_expect.specs.verdicts.Verdicts.{end_by, judged}
use Rattle.pm_expect.proofs.verdicts.ending.ends.Given as goal

-- those so far
abbrev pub invariant-loop-end : goal.invariant-loop-end
invariant-loop-end l = l.verdicts.items ≡ map (judged (end_by l.number l.finished l.parts.views)) (take l.end-index l.expected)
