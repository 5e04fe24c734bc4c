-- By what the caller may write there.
use Rattle.pm_show_runs.proofs.promises.BadLines.{third_is_bad}
use Rattle.pm_show_runs.proofs.promises.first_bad.third_line.Goals as goal

pub returns : goal.returns
returns c = third_is_bad
