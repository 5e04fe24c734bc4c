-- By the number of lines.
use Rattle.pm_show_runs.proofs.promises.BadLines.{third_is_past, two_are_lawful}
use Rattle.pm_show_runs.proofs.promises.first_bad.past_the_limit.Goals as goal

pub returns-clause-third : goal.returns-clause-third
returns-clause-third c = third_is_past

pub returns-clause-two : goal.returns-clause-two
returns-clause-two c = two_are_lawful
