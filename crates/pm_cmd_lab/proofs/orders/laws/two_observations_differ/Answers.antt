use Rattle.pm_cmd_lab.proofs.orders.Differing.{two_differ}
use Rattle.pm_cmd_lab.proofs.orders.laws.two_observations_differ.Goals as goal

pub returns : goal.returns
returns c = λ bounds plan found o p has also alike other. two_differ bounds plan found o p has also alike other
