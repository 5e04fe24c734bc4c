use Rattle.pm_wq.proofs.OrderLemmas.{learns, pushes}
use Rattle.pm_wq.proofs.hints.Hints.tell.Goals as goal

pub push_as-requires-clause-rule : goal.push_as-requires-clause-rule
push_as-requires-clause-rule g c = (pushes _ _ _ _, learns _ _)
