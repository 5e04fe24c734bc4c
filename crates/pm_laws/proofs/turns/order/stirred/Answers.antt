use Rattle.std.proofs.Common.{false}
use Rattle.pm_laws.proofs.turns.order.stirred.Goals as goal
use Rattle.pm_laws.proofs.turns.Touching.{only_reached}

pub returns : goal.returns
returns c = λ plan h line lawful a is other p q. only_reached plan h line lawful a false is other p q
