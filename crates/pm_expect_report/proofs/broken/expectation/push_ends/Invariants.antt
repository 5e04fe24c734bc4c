use Rattle.std.proofs.Common.{◌≡◌, ◌++◌, map, take}
use Rattle.pm_expect_report.specs.declared.broken.expectation.Expectation.TheVariants as expectation
use Rattle.pm_expect_report.proofs.broken.expectation.push_ends.Given as goal

-- so many of them
abbrev pub invariant-loop-end : goal.invariant-loop-end
invariant-loop-end l = l.all.items ≡ l.initial.all.items ++ map (λ x. expectation.End x) (take l.end-index l.ends)
