use Rattle.pm_laws.proofs.counts.sums.tallies.Goals as goal
use Rattle.pm_laws.proofs.counts.Tally.{tally_replaced, top_within}

pub returns : goal.returns
returns g c = record { replaced = tally_replaced; within = top_within }
