use Rattle.pm_cmd_top.specs.answers.Page.{MadeFinishes, MadeIsCut}
use Rattle.pm_cmd_top.proofs.answers.PageLemmas.{first_has, make_is, one_of_two, second_has, six_three, zero_six, zero_three}
use Rattle.pm_cmd_top.proofs.answers.page.make_says.Goals as goal

pub returns-clause-either : goal.returns-clause-either
returns-clause-either c number devices status out err quiet answers =
    one_of_two status 0 6 3 (MadeFinishes number devices) (MadeIsCut number devices) ⊥ (λ none. none) (make_is number devices status out err quiet answers)

pub returns-clause-finished : goal.returns-clause-finished
returns-clause-finished c number devices status out err quiet answers zero =
    first_has status 0 6 3 (MadeFinishes number devices) (MadeIsCut number devices) ⊥ zero_six zero_three (make_is number devices status out err quiet answers) zero

pub returns-clause-cut : goal.returns-clause-cut
returns-clause-cut c number devices status out err quiet answers six =
    second_has status 0 6 3 (MadeFinishes number devices) (MadeIsCut number devices) ⊥ zero_six six_three (make_is number devices status out err quiet answers) six
