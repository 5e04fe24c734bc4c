use Rattle.pm_wq.proofs.OrderLemmas.{admits}
use Rattle.pm_wq.proofs.hints.Hints.pass.Goals as goal

pub pass-requires : goal.pass-requires
pass-requires c = admits
