use Rattle.std.proofs.Common.{◌≡◌, ◌++◌, map, take}
use Rattle.pm_expect_report.specs.declared.broken.expectation.Expectation.TheVariants as expectation
use Rattle.pm_expect_report.proofs.broken.expectation.push_answers.Given as goal

-- so many of them
abbrev pub invariant-loop-answer : goal.invariant-loop-answer
invariant-loop-answer l = l.all.items ≡ l.initial.all.items ++ map (λ x. expectation.Answer x) (take l.answer-index l.answers)
