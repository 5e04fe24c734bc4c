use Rattle.pm_explore.proofs.successors.Successors.{all_follow}
use Rattle.pm_explore.proofs.successors.laws.next_snapshots_are_all.Goals as goal

pub returns : goal.returns
returns c = λ pace plan s spends lines exact. all_follow pace plan s spends lines exact
