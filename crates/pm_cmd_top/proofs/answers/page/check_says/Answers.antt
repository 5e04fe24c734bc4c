use Rattle.std.specs.Prelude.{IsErr, IsOk}
use Rattle.pm_planread.specs.PlanOf.{plan_of}
use Rattle.pm_cmd_top.proofs.answers.PageLemmas.{check_is, first_exactly, ok_not_none, six_three, third_exactly, zero_six, zero_three}
use Rattle.pm_cmd_top.proofs.answers.page.check_says.Goals as goal

pub returns-clause-done : goal.returns-clause-done
returns-clause-done c all plan status old new out err quiet answers =
    first_exactly status 0 6 3 (IsOk (plan_of plan)) ⊥ (IsErr (plan_of plan)) zero_six zero_three (λ one none. none) (ok_not_none plan) (check_is all plan status old new out err quiet answers)

pub returns-clause-refused : goal.returns-clause-refused
returns-clause-refused c all plan status old new out err quiet answers =
    third_exactly status 0 6 3 (IsOk (plan_of plan)) ⊥ (IsErr (plan_of plan)) zero_three six_three (ok_not_none plan) (λ none other. none) (check_is all plan status old new out err quiet answers)
