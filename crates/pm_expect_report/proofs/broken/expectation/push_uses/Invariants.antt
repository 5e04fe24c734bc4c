use Rattle.std.proofs.Common.{◌≡◌, ◌++◌, map, take}
use Rattle.pm_expect_report.specs.declared.broken.expectation.Expectation.TheVariants as expectation
use Rattle.pm_expect_report.proofs.broken.expectation.push_uses.Given as goal

-- so many of them
abbrev pub invariant-loop-each : goal.invariant-loop-each
invariant-loop-each l = l.all.items ≡ l.initial.all.items ++ map (λ x. expectation.Use x) (take l.each-index l.uses)
