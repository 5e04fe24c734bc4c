use Rattle.pm_why.proofs.UsageLemmas.{counts_are}
use Rattle.pm_why.proofs.laws.counts_are_usage.Goals as goal

pub returns : goal.returns
returns c = counts_are
