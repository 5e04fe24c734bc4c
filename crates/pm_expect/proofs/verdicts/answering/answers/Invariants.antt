use Rattle.std.proofs.Common.{◌≡◌, map, take}
use Rattle.pm_expect.specs.verdicts.Verdicts.{answer_by, judged}
use Rattle.pm_expect.proofs.verdicts.answering.answers.Given as goal

-- those so far
abbrev pub invariant-loop-answer : goal.invariant-loop-answer
invariant-loop-answer l = l.verdicts.items ≡ map (judged (answer_by l.plan l.all)) (take l.answer-index l.expected)
