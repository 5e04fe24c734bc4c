use Rattle.std.specs.Prelude.{IsErr, IsOk}
use Rattle.pm_planread.specs.PlanOf.{plan_of}
use Rattle.pm_cmd_top.specs.answers.Page.{IsCutAlone, TookAlone, TookSomeRun}
use Rattle.pm_cmd_top.proofs.answers.PageLemmas.{first_has, ok_not_none, one_of_two, run_is, second_has, six_three, third_exactly, zero_six, zero_three}
use Rattle.pm_cmd_top.proofs.answers.page.runs_say.Goals as goal

pub returns-clause-refused : goal.returns-clause-refused
returns-clause-refused c all plan status old new out err quiet answers =
    third_exactly status 0 6 3 (IsOk (plan_of plan) × TookSomeRun plan out) (IsOk (plan_of plan) × (IsCutAlone plan × TookAlone plan out)) (IsErr (plan_of plan)) zero_three six_three (λ one none. ok_not_none plan one.0 none) (λ one none. ok_not_none plan one.0 none) (run_is all plan status old new out err quiet answers)

pub returns-clause-runs : goal.returns-clause-runs
returns-clause-runs c all plan status old new out err quiet answers one =
    one_of_two status 0 6 3 (IsOk (plan_of plan) × TookSomeRun plan out) (IsOk (plan_of plan) × (IsCutAlone plan × TookAlone plan out)) (IsErr (plan_of plan)) (λ none. ok_not_none plan one none) (run_is all plan status old new out err quiet answers)

pub returns-clause-finished : goal.returns-clause-finished
returns-clause-finished c all plan status old new out err quiet answers zero =
    (first_has status 0 6 3 (IsOk (plan_of plan) × TookSomeRun plan out) (IsOk (plan_of plan) × (IsCutAlone plan × TookAlone plan out)) (IsErr (plan_of plan)) zero_six zero_three (run_is all plan status old new out err quiet answers) zero).1

pub returns-clause-cut : goal.returns-clause-cut
returns-clause-cut c all plan status old new out err quiet answers six =
    (second_has status 0 6 3 (IsOk (plan_of plan) × TookSomeRun plan out) (IsOk (plan_of plan) × (IsCutAlone plan × TookAlone plan out)) (IsErr (plan_of plan)) zero_six six_three (run_is all plan status old new out err quiet answers) six).1
