use Rattle.std.proofs.Common.{None, Some, refl, lit<}
use Rattle.pm_io.specs.Faults.{Rose}
use Rattle.pm_cmd_top.specs.Runs.{SerialEnds}
use Rattle.pm_cmd_ends.specs.Reading.{OfPlan}
use Rattle.pm_cmd_top.specs.answers.Complete.{run_statuses}
use Rattle.pm_cmd_top.proofs.answers.PlanStatuses.{own_statuses, plan_missing, plan_refused, refusals, serial_statuses}
use Rattle.pm_cmd_top.proofs.answers.plans.serial_answers_exactly.Goals as goal

pub returns-clause-refused : goal.returns-clause-refused
returns-clause-refused c all bytes status old new out err is_no answers =
    refusals (OfPlan all (Some bytes) SerialEnds) status (Rose old new) out err (λ ending ends. plan_refused (Some bytes) is_no ends) answers

pub returns-clause-missing : goal.returns-clause-missing
returns-clause-missing c all status old new out err told answers =
    refusals (OfPlan all None SerialEnds) status (Rose old new) out err (λ ending ends. plan_missing None told refl ends) answers

pub returns-clause-runs : goal.returns-clause-runs
returns-clause-runs c all bytes status old new out err is_one no_read no_write answers =
    own_statuses (OfPlan all (Some bytes) SerialEnds) run_statuses status (Rose old new) out err no_read no_write (2, lit< tt, refl) (serial_statuses (Some bytes) is_one) answers
