-- By computing the run.
use Rattle.std.specs.Prelude.{drop}
use Rattle.std.proofs.Common.{refl}
use Rattle.pm_show_runs.proofs.CallTable.{call_table}
use Rattle.pm_show_runs.specs.Counts.{first_plan}
use Rattle.pm_show_runs.specs.Words.{dev, run_of}
use Rattle.pm_show_runs.specs.promises.WrongLines.{begins}
use Rattle.pm_show_runs.proofs.promises.Deciding.{begins_apart, begins_twice, never_reached}
use Rattle.pm_show_runs.proofs.promises.gets.wrong_lines.Goals as goal

pub returns-clause-twice : goal.returns-clause-twice
unfolding call_table
returns-clause-twice c = λ law. begins_twice first_plan (begins (dev 0)) (drop 9 (run_of first_plan)) 5 0 (dev 0) (dev 0) refl refl law

pub returns-clause-unreached : goal.returns-clause-unreached
unfolding call_table
returns-clause-unreached c = λ law. begins_apart first_plan (begins (dev 1)) (drop 10 (run_of first_plan)) 4 0 (dev 0) (dev 1) refl refl never_reached law
