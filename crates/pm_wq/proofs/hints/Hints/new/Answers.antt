use Rattle.pm_wq.proofs.OrderLemmas.{begins}
use Rattle.pm_wq.proofs.hints.Hints.new.Goals as goal

pub ruled-requires-clause-rule : goal.ruled-requires-clause-rule
ruled-requires-clause-rule c = begins
