use Rattle.pm_find.proofs.findings.ShareLemmas.{counted}
use Rattle.pm_find.proofs.findings.laws.open_counts_are_share.Goals as goal

pub returns : goal.returns
returns c = counted
