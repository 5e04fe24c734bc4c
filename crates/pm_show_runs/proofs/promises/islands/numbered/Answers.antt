-- By the table of numbers.
use Rattle.pm_show_runs.proofs.promises.Apart.{callers_and_works_are_on, nodes_are_numbered, timers_are_on}
use Rattle.pm_show_runs.proofs.promises.islands.numbered.Goals as goal

pub returns-clause-nodes : goal.returns-clause-nodes
returns-clause-nodes c = nodes_are_numbered

pub returns-clause-callers_and_works : goal.returns-clause-callers_and_works
returns-clause-callers_and_works c = callers_and_works_are_on

pub returns-clause-timers : goal.returns-clause-timers
returns-clause-timers c = timers_are_on
