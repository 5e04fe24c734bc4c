use Rattle.pm_laws.proofs.counts.held_counts_are_taken.Goals as goal
use Rattle.pm_laws.proofs.counts.Held.{held_taken}

pub returns : goal.returns
returns c = held_taken
