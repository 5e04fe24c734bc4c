-- By what the caller may write there, and when.
use Rattle.pm_show_runs.proofs.promises.BadLines.{early_is_bad, wrong_and_early_is_bad}
use Rattle.pm_show_runs.proofs.promises.first_bad.step_before_time.Goals as goal

pub returns-clause-step : goal.returns-clause-step
returns-clause-step c = wrong_and_early_is_bad

pub returns-clause-time : goal.returns-clause-time
returns-clause-time c = early_is_bad
