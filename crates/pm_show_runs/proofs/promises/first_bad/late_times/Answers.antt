-- By reading the times.
use Rattle.pm_show_runs.proofs.promises.BadLines.{falling_has_none, latest_is_lawful, too_late2_is_bad, too_late_is_bad}
use Rattle.pm_show_runs.proofs.promises.first_bad.late_times.Goals as goal

pub returns-clause-latest : goal.returns-clause-latest
returns-clause-latest c = latest_is_lawful

pub returns-clause-format1 : goal.returns-clause-format1
returns-clause-format1 c = too_late_is_bad

pub returns-clause-format2 : goal.returns-clause-format2
returns-clause-format2 c = too_late2_is_bad

pub returns-clause-falling : goal.returns-clause-falling
returns-clause-falling c = falling_has_none
