use Rattle.std.proofs.Common.{Some, refl, lit<}
use Rattle.pm_io.specs.Faults.{Rose}
use Rattle.pm_cmd_top.specs.Runs.{RunEnds}
use Rattle.pm_cmd_ends.specs.Reading.{OfPlan}
use Rattle.pm_cmd_top.specs.Commands.{CheckEnds, MakeEnds}
use Rattle.pm_cmd_top.specs.answers.Complete.{count_statuses, run_statuses}
use Rattle.pm_cmd_top.proofs.answers.PlanStatuses.{check_statuses, make_statuses, own_statuses, thread_statuses}
use Rattle.pm_cmd_top.proofs.answers.plans.plans_answer_exactly.Goals as goal

pub returns-clause-run : goal.returns-clause-run
returns-clause-run c all bytes status old new out err is_one no_read no_write answers =
    own_statuses (OfPlan all (Some bytes) RunEnds) run_statuses status (Rose old new) out err no_read no_write (2, lit< tt, refl) (thread_statuses (Some bytes) is_one) answers

pub returns-clause-check : goal.returns-clause-check
returns-clause-check c all bytes status old new out err is_one no_read no_write answers =
    own_statuses (OfPlan all (Some bytes) CheckEnds) count_statuses status (Rose old new) out err no_read no_write (1, lit< tt, refl) (check_statuses (Some bytes) is_one) answers

pub returns-clause-make : goal.returns-clause-make
returns-clause-make c number devices status out err no_write answers =
    own_statuses (MakeEnds number devices) run_statuses status ⊥ out err (λ none. none) no_write (2, lit< tt, refl) make_statuses answers
