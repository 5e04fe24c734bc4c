-- By the length of a line.
use Rattle.pm_show_runs.proofs.promises.Empty.{empty_is_bad}
use Rattle.pm_show_runs.proofs.promises.pieces.empty_line.Goals as goal

pub returns : goal.returns
returns c = empty_is_bad
