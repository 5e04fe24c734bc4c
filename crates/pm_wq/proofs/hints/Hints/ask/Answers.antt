use Rattle.pm_wq.proofs.OrderLemmas.{learns, pops}
use Rattle.pm_wq.proofs.hints.Hints.ask.Goals as goal

pub pop_as-requires-clause-rule : goal.pop_as-requires-clause-rule
pop_as-requires-clause-rule g c = (pops _ _, learns _ _)
