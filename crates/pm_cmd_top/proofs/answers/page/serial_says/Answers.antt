use Rattle.std.specs.Prelude.{IsErr}
use Rattle.pm_planread.specs.PlanOf.{plan_of}
use Rattle.pm_cmd_top.specs.answers.Page.{FinishesAlone, IsCutAlone}
use Rattle.pm_cmd_top.proofs.answers.PageLemmas.{alone_not_cut, first_exactly, not_none, second_exactly, serial_is, serial_wrote, six_three, third_exactly, zero_six, zero_three}
use Rattle.pm_cmd_top.proofs.answers.page.serial_says.Goals as goal

pub returns-clause-finished : goal.returns-clause-finished
returns-clause-finished c all plan status old new out err quiet answers =
    first_exactly status 0 6 3 (FinishesAlone plan) (IsCutAlone plan) (IsErr (plan_of plan)) zero_six zero_three (alone_not_cut plan) (λ one none. not_none plan one.0 one.1 none) (serial_is all plan status old new out err quiet answers)

pub returns-clause-cut : goal.returns-clause-cut
returns-clause-cut c all plan status old new out err quiet answers =
    second_exactly status 0 6 3 (FinishesAlone plan) (IsCutAlone plan) (IsErr (plan_of plan)) zero_six six_three (alone_not_cut plan) (λ one none. not_none plan one.0 one.1 none) (serial_is all plan status old new out err quiet answers)

pub returns-clause-refused : goal.returns-clause-refused
returns-clause-refused c all plan status old new out err quiet answers =
    third_exactly status 0 6 3 (FinishesAlone plan) (IsCutAlone plan) (IsErr (plan_of plan)) zero_three six_three (λ one none. not_none plan one.0 one.1 none) (λ one none. not_none plan one.0 one.1 none) (serial_is all plan status old new out err quiet answers)

pub returns-clause-written : goal.returns-clause-written
returns-clause-written c all plan status old new out err quiet answers one = serial_wrote all plan status old new out err quiet answers one
