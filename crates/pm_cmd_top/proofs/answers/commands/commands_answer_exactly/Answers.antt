use Rattle.pm_io.specs.Faults.{Rose}
use Rattle.pm_cmd_ends.specs.Request.{asked_by}
use Rattle.pm_cmd_top.specs.Commands.{AskedEnds}
use Rattle.pm_cmd_top.proofs.answers.AskedStatuses.{asked_exactly, asked_missing, asked_refused, named_exactly}
use Rattle.pm_cmd_top.proofs.answers.FileCases.{all_cases}
use Rattle.pm_cmd_top.proofs.answers.PlanStatuses.{refusals}
use Rattle.pm_cmd_top.proofs.answers.commands.commands_answer_exactly.Goals as goal

pub returns-clause-complete : goal.returns-clause-complete
returns-clause-complete c all told asked status old new out err has no_read no_write answers = asked_exactly all told asked status (Rose old new) out err has no_read no_write answers

pub returns-clause-refused : goal.returns-clause-refused
returns-clause-refused c all told asked status old new out err is_no answers =
    refusals (AskedEnds all told asked) status (Rose old new) out err (λ ending ends. asked_refused all told asked ending is_no ends) answers

pub returns-clause-missing : goal.returns-clause-missing
returns-clause-missing c all told asked status old new out err all_told none answers =
    refusals (AskedEnds all told asked) status (Rose old new) out err (λ ending ends. asked_missing all told asked ending all_told none ends) answers

pub returns-clause-covered : goal.returns-clause-covered
returns-clause-covered c told asked = all_cases told asked

pub returns-clause-top : goal.returns-clause-top
returns-clause-top c all told words status old new out err no_read no_write answers = named_exactly all told (asked_by words) status (Rose old new) out err no_read no_write answers
