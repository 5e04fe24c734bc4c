use Rattle.pm_laws.proofs.islands.part_is_one.Goals as goal
use Rattle.pm_laws.proofs.islands.OnePart.{one_part}

pub returns : goal.returns
returns c = one_part
