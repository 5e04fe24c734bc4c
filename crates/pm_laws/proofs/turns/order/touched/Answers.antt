use Rattle.pm_laws.proofs.turns.order.touched.Goals as goal
use Rattle.pm_laws.proofs.turns.Touching.{only_touched}

pub returns : goal.returns
returns c = only_touched
