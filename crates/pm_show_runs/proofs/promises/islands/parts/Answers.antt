-- By the rows of the parts.
use Rattle.pm_show_runs.proofs.promises.Apart.{is_first_part, is_no_part, is_second_part, is_third_part}
use Rattle.pm_show_runs.proofs.promises.islands.parts.Goals as goal

pub returns-clause-of_one : goal.returns-clause-of_one
returns-clause-of_one c = is_first_part

pub returns-clause-of_another : goal.returns-clause-of_another
returns-clause-of_another c = is_first_part

pub returns-clause-second : goal.returns-clause-second
returns-clause-second c = is_second_part

pub returns-clause-third : goal.returns-clause-third
returns-clause-third c = is_third_part

pub returns-clause-whole : goal.returns-clause-whole
returns-clause-whole c = is_no_part
