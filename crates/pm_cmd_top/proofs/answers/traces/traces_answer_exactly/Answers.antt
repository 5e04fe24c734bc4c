use Rattle.std.proofs.Common.{Some, refl, lit<}
use Rattle.pm_io.specs.Faults.{Rose}
use Rattle.pm_cmd_ends.specs.Reading.{OfPlan}
use Rattle.pm_cmd_top.specs.TraceCommands.{OfAudit, OfConvert, OfTimes, OfWhy}
use Rattle.pm_cmd_top.specs.answers.Complete.{trace_statuses}
use Rattle.pm_cmd_top.proofs.answers.PlanStatuses.{own_statuses}
use Rattle.pm_cmd_top.proofs.answers.TraceStatuses.{audit_statuses, convert_statuses, times_statuses, why_statuses}
use Rattle.pm_cmd_top.proofs.answers.traces.traces_answer_exactly.Goals as goal

pub returns-clause-audit : goal.returns-clause-audit
returns-clause-audit c all bytes trace status old new out err is_one short no_read no_write answers =
    own_statuses (OfPlan all (Some bytes) (OfAudit all (Some trace))) trace_statuses status (Rose old new) out err no_read no_write (2, lit< tt, refl) (audit_statuses (Some bytes) (Some trace) is_one short) answers

pub returns-clause-convert : goal.returns-clause-convert
returns-clause-convert c all bytes trace status old new out err is_one short no_read no_write answers =
    own_statuses (OfPlan all (Some bytes) (OfConvert all (Some trace))) trace_statuses status (Rose old new) out err no_read no_write (2, lit< tt, refl) (convert_statuses (Some bytes) (Some trace) is_one short) answers

pub returns-clause-times : goal.returns-clause-times
returns-clause-times c all bytes trace status old new out err is_one short no_read no_write answers =
    own_statuses (OfPlan all (Some bytes) (OfTimes all (Some trace))) trace_statuses status (Rose old new) out err no_read no_write (2, lit< tt, refl) (times_statuses (Some bytes) (Some trace) is_one short) answers

pub returns-clause-why : goal.returns-clause-why
returns-clause-why c all bytes trace name status old new out err has short no_read no_write answers =
    own_statuses (OfPlan all (Some bytes) (OfWhy all (Some trace) name)) trace_statuses status (Rose old new) out err no_read no_write (2, lit< tt, refl) (why_statuses (Some bytes) (Some trace) name has short) answers
