use Rattle.pm_explore.proofs.successors.Successors.{all_next}
use Rattle.pm_explore.proofs.successors.laws.lines_are_all.Goals as goal

pub returns : goal.returns
returns c = λ pace plan s spends times entries places exact. all_next pace plan s spends times entries places exact
