use Rattle.pm_explore.proofs.successors.Successors.{one_line}
use Rattle.pm_explore.proofs.successors.laws.lines_are_by_one.Goals as goal

pub returns : goal.returns
returns c = λ plan s a b p q actors times. one_line plan s a b p q actors times
