use Rattle.pm_expect_report.proofs.broken.using.+are_on.Given as goal

abbrev pub decreases-are_on : goal.decreases-are_on
decreases-are_on l = l.most
